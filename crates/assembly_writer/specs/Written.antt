-- What the writer asks for, and what it writes: the view that the tables stand for.
use Rattle.std.specs.Prelude.{◌≡◌, List, map, ℕ, ◌*◌, ◌≤◌, length, get_or, drop}
use Rattle.roster.specs.Roster.{name_size, cluster}
use Rattle.log_chain.specs.Log.{Form, with_terms, Record}
use Rattle.log_chain.specs.Records.{record_size, records_of}
use Rattle.log_chain.specs.Runs.{runs}
use Rattle.submission.specs.View.{View}
use Rattle.submission.specs.Validate.{record_most}
use Rattle.submission_encoding.specs.Encoding.{encode}
use Rattle.assembly_copies.specs.Rows.{taken_size, leads_in, commit_in}
use Rattle.assembly_terms.specs.Wanted.{VotesIn}
use Rattle.assembly_writer.specs.declared.Plan.{Plan}
use Rattle.assembly_writer.specs.Parts.{RowsInside}

module _ (roster log item_bytes : List ℕ) (p : Plan) (taken : List ℕ) where
  abbrev pub form_taken : Form
  form_taken = with_terms p.width (cluster roster)

  abbrev pub records_taken : List Record
  records_taken = records_of p.width p.records log

  -- a row for each term, and one for the commit
  unfoldable pub view_taken : View
  view_taken =
      let ls = leads_in p.size item_bytes form_taken p.replicas taken (runs records_taken) in
      record {
        log = records_taken;
        leaders = map (λ l. l.certificate) ls;
        stamps = map (λ l. l.stamp) ls;
        commit = commit_in p.size item_bytes p.replicas (drop (taken_size * p.leaders) taken);
      }

  unfoldable pub bytes_taken : List ℕ
  bytes_taken = encode p.size form_taken 1 view_taken

-- what it asks for: a whole log with so many terms, the votes' table, and rows with places inside the bag
pub record Planned (roster log item_bytes votes : List ℕ) (p : Plan) (taken : List ℕ) : Type 0 where
  pub name : name_size ≤ length roster
  pub records : p.records ≤ record_most
  pub logged : record_size p.width * p.records ≡ length log
  pub leaders : p.leaders ≡ length (runs (records_of p.width p.records log))
  pub tabled : VotesIn (with_terms p.width (cluster roster)) 1
      (runs (records_of p.width p.records log)) votes
  pub index : get_or taken (taken_size * p.leaders) 0 ≤ p.records
  pub held : RowsInside item_bytes p taken
