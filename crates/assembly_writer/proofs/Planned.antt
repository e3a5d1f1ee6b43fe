-- What a plan gives the writers, and that what they write is the bytes of its view.
-- Assumes nothing.
use mathlib.Core.Path.{◌≡◌, refl, sym, ap, ◌∙◌}
use mathlib.Core.List.{List, [], ◌∷◌, ◌++◌, map}
use Prim.Native.Nat.{ℕ, ◌+◌, ◌-◌, ◌*◌, ◌≤◌, ◌<◌}
use native.Mathlib.Omega.{arith}
use borrow.Rule.Slice.PartMut.{put_mid}
use lib.ListN.{length, get_or, take, drop, length-append, length-map}
use lib.Seq.{length-take-le, sets}
use Rattle.words.specs.BigEndian.{be}
use Rattle.words.specs.Over.{over}
use Rattle.words.proofs.Bytes.{Bytes}
use Rattle.words.proofs.Laws.{length-be}
use Rattle.words.proofs.Over.{Begun, begun_first, rest_put}
use Rattle.roster.specs.Roster.{name_size, cluster}
use Rattle.log_chain.specs.Log.{Form, with_terms}
use Rattle.log_chain.specs.Records.{records_of}
use Rattle.log_chain.proofs.Records.{length-records}
use Rattle.log_chain.specs.Runs.{Run, runs}
use Rattle.submission.specs.Trailer.{trailer_size}
use Rattle.submission.specs.View.{Lead}
use Rattle.submission_encoding.specs.Encoding.{trailer_bytes, encode}
use Rattle.assembly_copies.specs.Rows.{taken_size, leads_in}
use Rattle.assembly_terms.specs.Wanted.{vote_head, vote_tail}
use Rattle.assembly_terms.proofs.Wanted.{votes-long}
use Rattle.assembly_writer.specs.declared.Plan.{Plan}
use Rattle.assembly_writer.specs.declared.PartSizes.{PartSizes}
use Rattle.assembly_writer.specs.Parts.{leaders_part, stamps_part, commit_part, certified_part, SizesOf, fields_for, field_count, fields_part, trailer_part}
use Rattle.assembly_writer.specs.Written.{view_taken, bytes_taken, Planned}
use Rattle.assembly_writer.proofs.Joined.{joined-long}
use Rattle.assembly_writer.proofs.Rows.{commit-row-places}
use Rattle.assembly_writer.proofs.Bounds.{parts-small}
use Rattle.assembly_writer.proofs.Leads.{leads-count, leaders-bytes, stamps-bytes, commit-bytes}
use Rattle.assembly_writer.proofs.Whole.{log-bytes, laid, laid-parts}

-- ---- the sizes as they are

sizes_own : List ℕ → Plan → List ℕ → List ℕ → PartSizes
sizes_own item_bytes p votes taken =
    record {
      leaders = length (leaders_part item_bytes p votes taken);
      stamps = length (stamps_part item_bytes p taken);
      commit = length (commit_part p.size item_bytes p.replicas (drop (taken_size * p.leaders) taken));
    }

own_sizes : (item_bytes : List ℕ) (p : Plan) (votes taken : List ℕ) → SizesOf item_bytes p votes taken (sizes_own item_bytes p votes taken)
unfolding sizes_own
own_sizes item_bytes p votes taken = record { leaders = refl; stamps = refl; commit = refl }

-- ---- the plan

module _ {roster log item_bytes votes : List ℕ} {p : Plan} {taken : List ℕ} (plan : Planned roster log item_bytes votes p taken) where
  abbrev name : List ℕ
  name = cluster roster

  abbrev form : Form
  form = with_terms p.width name

  abbrev terms : List Run
  terms = runs (records_of p.width p.records log)

  abbrev ls : List Lead
  ls = leads_in p.size item_bytes form p.replicas taken terms

  named : length name ≡ name_size
  unfolding cluster
  named = length-take-le name_size roster plan.name

  pub votes-room : vote_head + vote_tail p.width * p.leaders ≤ length votes
  votes-room = rw plan.leaders (votes-long form named terms votes 1 plan.tabled)

  pub index-small : get_or taken (taken_size * p.leaders) 0 < 4294967296
  index-small = omega (arith, plan.index, plan.records)

  -- ---- what is written

  module _ (bytes : Bytes log) where
    view-parts : bytes_taken roster log item_bytes p taken
        ≡ laid name log (leaders_part item_bytes p votes taken) (stamps_part item_bytes p taken)
        (commit_part p.size item_bytes p.replicas (drop (taken_size * p.leaders) taken)) p.records p.leaders
    unfolding bytes_taken view_taken encode trailer_bytes
    view-parts =
        let one = log-bytes p.width name p.records log bytes plan.logged in
        let two = leaders-bytes item_bytes votes taken name p plan.held named terms plan.leaders plan.tabled in
        let three = stamps-bytes item_bytes votes taken name p plan.held named terms plan.leaders in
        let four = commit-bytes p.size item_bytes form p.replicas (drop (taken_size * p.leaders) taken) (commit-row-places plan.held) in
        let H = length-records p.width p.records log in
        let L : length (map (λ (l : Lead). l.certificate) ls) ≡ p.leaders =
        length-map ls (λ (l : Lead). l.certificate) ∙ leads-count p.size item_bytes form p.replicas taken terms ∙ sym plan.leaders in
        (λ i. laid name (one i) (two i) (three i) (four i) (H i) (L i))

    pub bytes-parts : {s : PartSizes} → SizesOf item_bytes p votes taken s
        → bytes_taken roster log item_bytes p taken ≡ (log ++ certified_part item_bytes p votes taken) ++ trailer_part name (fields_for p (length log) s)
    unfolding certified_part
    bytes-parts sizes =
        let l = sym sizes.leaders in
        let t = sym sizes.stamps in
        let k = sym sizes.commit in
        view-parts
        ∙ laid-parts name log (leaders_part item_bytes p votes taken) (stamps_part item_bytes p taken)
        (commit_part p.size item_bytes p.replicas (drop (taken_size * p.leaders) taken)) p.records p.leaders
        ∙ (λ i.
        (log
        ++ (leaders_part item_bytes p votes taken ++ stamps_part item_bytes p taken
        ++ commit_part p.size item_bytes p.replicas (drop (taken_size * p.leaders) taken)))
        ++ trailer_part name
        (p.records ∷ p.leaders ∷ (length log + (l i + (t i + k i))) ∷ (l i + (t i + k i)) ∷ (t i + k i) ∷ k i ∷ 1 ∷ []))

    -- ---- how many bytes

    fields-long : (fields : List ℕ) → length (trailer_part name fields) ≡ trailer_size
    unfolding trailer_part
    fields-long fields =
        length-append name (fields_part fields)
        ∙ rw (named, joined-long (λ i. be 4 (get_or fields i 0)) 4 (λ i. length-be 4 (get_or fields i 0)) field_count) refl

    pub written-long : length log
        + (length (leaders_part item_bytes p votes taken) + length (stamps_part item_bytes p taken))
        + length (commit_part p.size item_bytes p.replicas (drop (taken_size * p.leaders) taken)) + trailer_size
        ≡ length (bytes_taken roster log item_bytes p taken)
    unfolding certified_part
    written-long =
        let two = leaders_part item_bytes p votes taken in
        let three = stamps_part item_bytes p taken in
        let four = commit_part p.size item_bytes p.replicas (drop (taken_size * p.leaders) taken) in
        let fields = fields_for p (length log) (sizes_own item_bytes p votes taken) in
        omega (
          arith,
          ap length (bytes-parts (own_sizes item_bytes p votes taken)),
          length-append (log ++ (two ++ three ++ four)) (trailer_part name fields),
          length-append log (two ++ three ++ four),
          length-append (two ++ three) four,
          length-append two three,
          fields-long fields,
        )

    -- ---- a buffer with room for it

    abbrev certified : List ℕ
    certified = certified_part item_bytes p votes taken

    module _ (e : List ℕ) (room : length (bytes_taken roster log item_bytes p taken) ≤ length e) where
      begins-room : length (log ++ certified) ≤ length e
      begins-room =
          let whole = bytes-parts (own_sizes item_bytes p votes taken) in
          omega (arith, ap length whole, length-append (log ++ certified) (trailer_part name (fields_for p (length log) (sizes_own item_bytes p votes taken))))

      pub log-room : length log ≤ length e
      log-room = omega (arith, begins-room, length-append log certified)

      pub log-begun : {out : List ℕ} → out ≡ sets e 0 log → Begun log certified e out (length log)
      log-begun o = begun_first begins-room o refl

      module _ {s : PartSizes} (sizes : SizesOf item_bytes p votes taken s) where
        parts-end : length log + (s.leaders + (s.stamps + s.commit)) ≡ length (log ++ certified)
        unfolding certified_part
        parts-end =
            let two = leaders_part item_bytes p votes taken in
            let three = stamps_part item_bytes p taken in
            let four = commit_part p.size item_bytes p.replicas (drop (taken_size * p.leaders) taken) in
            omega (
              arith,
              length-append log (two ++ three ++ four),
              length-append (two ++ three) four,
              length-append two three,
              sizes.leaders,
              sizes.stamps,
              sizes.commit,
            )

        pub sizes-small : length log + (s.leaders + (s.stamps + s.commit)) < 4294967296
        sizes-small =
            omega (arith, parts-small plan.held votes plan.logged plan.records, sizes.leaders, sizes.stamps, sizes.commit)

        trailer-begun : {out : List ℕ} → out ≡ over (log ++ certified) e
            → Begun (log ++ certified) (trailer_part name (fields_for p (length log) s)) e out (length log + (s.leaders + (s.stamps + s.commit)))
        trailer-begun o = record { room = omega (arith, ap length (bytes-parts sizes)); put = o; here = parts-end }

        -- the same of a buffer whose rest, after the log, was lent on to the writer of parts 2 to 4
        pub certified-put : {out last : List ℕ} → out ≡ sets e 0 log
            → last ≡ over certified (take (length out - length log) (drop (length log) out))
            → Begun (log ++ certified) (trailer_part name (fields_for p (length log) s)) e (put_mid (length log) (length out - length log) out last)
            (length log + (s.leaders + (s.stamps + s.commit)))
        certified-put o l = trailer-begun (rest_put (log-begun o) refl l).1
