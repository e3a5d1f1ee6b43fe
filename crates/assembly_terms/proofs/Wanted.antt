-- What the tables of wanted statements have: the statement of each term, by its place; and votes for another candidate.
-- Assumes nothing.
use mathlib.Core.Path.{◌≡◌, refl, sym, ◌∙◌}
use mathlib.Core.List.{List, [], ◌∷◌, ◌++◌, append_assoc, flat_map}
use Prim.Native.Nat.{ℕ, ◌+◌, ◌*◌, ◌≤◌, ◌<◌}
use native.Mathlib.Omega.{arith}
use lib.ListN.{length, get_or, take, drop, replicate, length-append}
use lib.Seq.{sets}
use Rattle.words.specs.BigEndian.{be}
use Rattle.words.proofs.Laws.{length-be}
use Rattle.roster.specs.Roster.{name_size}
use Rattle.log_chain.specs.Log.{Form, Record, last_term, pointer}
use Rattle.log_chain.specs.Claim.{stamped, voted, place, ballot_bytes, say}
use Rattle.log_chain.specs.Runs.{Run, run}
use Rattle.log_chain.proofs.Said.{pointer-length}
use Rattle.assembly.specs.Choice.{ballot_for}
use Rattle.assembly_copies.specs.declared.Sought.{Sought}
use Rattle.assembly_copies.specs.Sought.{statement_at}
use Rattle.assembly_terms.specs.Wanted.{vote_head, vote_tail, stamp_head, stamp_tail, vote_end, stamp_end, votes_wanted, stamps_wanted, VotesIn, StampsIn}
use Rattle.assembly_terms.proofs.Tables.{rows-length, begins-room, begins-set, table-head, table-row}

module _ (form : Form) where
  -- ---- what a statement ends with

  pub place-size : (t : ℕ) (log : List Record) → length (place form t log) ≡ stamp_tail form.term_bytes
  unfolding place pointer
  place-size t log =
      let last = pointer-length form 0 (replicate 32 0) log refl in
      simp (length-append, length-be) (omega (arith, last))

  pub stamp-end-size : (r : Run) → length (stamp_end form r) ≡ stamp_tail form.term_bytes
  unfolding stamp_end
  stamp-end-size r = place-size (last_term r.upto) r.upto

  pub vote-end-size : (r : Run) → length (vote_end form r) ≡ vote_tail form.term_bytes
  unfolding vote_end
  vote-end-size r =
      length-append (be form.term_bytes (last_term r.upto)) _
      ∙ rw (length-be, place-size (last_term r.before) r.before) (omega arith)

  pub ballot-end : (c : ℕ) (r : Run) → ballot_bytes form (ballot_for form c r) ≡ be 2 c ++ vote_end form r
  unfolding ballot_bytes ballot_for vote_end place
  ballot-end c r = simp append_assoc

  -- ---- the tables, for a name of 16 bytes

  module _ (named : length form.cluster ≡ name_size) where
    vote-head-size : (c : ℕ) → length ((form.first_kind + 2) ∷ form.cluster ++ be 2 c) ≡ vote_head
    vote-head-size c = rw (length-append, length-be) (omega arith)

    stamp-head-size : length (form.first_kind ∷ form.cluster) ≡ stamp_head
    stamp-head-size = omega arith

    module _ (rs : List Run) (t : List ℕ) where
      -- votes for another candidate
      pub votes-set : (c d : ℕ) → VotesIn form c rs t → VotesIn form d rs (sets t stamp_head (be 2 d))
      unfolding VotesIn votes_wanted
      votes-set c d h =
          begins-set ((form.first_kind + 2) ∷ form.cluster) (be 2 c) (flat_map (vote_end form) rs) (be 2 d) t stamp_head (omega arith)
          (length-be 2 d ∙ sym (length-be 2 c)) h

      -- all of them are there
      pub votes-long : (c : ℕ) → VotesIn form c rs t → vote_head + vote_tail form.term_bytes * length rs ≤ length t
      unfolding VotesIn votes_wanted
      votes-long c h =
          let head = (form.first_kind + 2) ∷ form.cluster ++ be 2 c in
          let ends = flat_map (vote_end form) rs in
          omega (
            arith,
            begins-room (head ++ ends) t h,
            length-append head ends,
            vote-head-size c,
            rows-length (vote_end form) (vote_tail form.term_bytes) vote-end-size rs,
          )

      -- what all begin with
      vote-begins : (c : ℕ) → VotesIn form c rs t → take vote_head t ≡ (form.first_kind + 2) ∷ form.cluster ++ be 2 c
      unfolding VotesIn votes_wanted
      vote-begins c h = table-head ((form.first_kind + 2) ∷ form.cluster ++ be 2 c) (vote_end form) (vote_tail form.term_bytes) vote-end-size rs t h vote_head (vote-head-size c)

      stamp-begins : StampsIn form rs t → take stamp_head t ≡ form.first_kind ∷ form.cluster
      unfolding StampsIn stamps_wanted
      stamp-begins h = table-head (form.first_kind ∷ form.cluster) (stamp_end form) (stamp_tail form.term_bytes) stamp-end-size rs t h stamp_head stamp-head-size

      -- the statement of a term
      module _ (m : ℕ) (inside : m < length rs) where
        pub vote-end : (c : ℕ) → VotesIn form c rs t
            → take (vote_tail form.term_bytes) (drop (vote_head + vote_tail form.term_bytes * m) t) ≡ vote_end form (get_or rs m (run [] []))
        unfolding VotesIn votes_wanted
        vote-end c h = table-row ((form.first_kind + 2) ∷ form.cluster ++ be 2 c) (vote_end form) (vote_tail form.term_bytes) vote-end-size rs t h vote_head m (run [] []) (vote-head-size c) inside

        stamp-end : StampsIn form rs t
            → take (stamp_tail form.term_bytes) (drop (stamp_head + stamp_tail form.term_bytes * m) t) ≡ stamp_end form (get_or rs m (run [] []))
        unfolding StampsIn stamps_wanted
        stamp-end h = table-row (form.first_kind ∷ form.cluster) (stamp_end form) (stamp_tail form.term_bytes) stamp-end-size rs t h stamp_head m (run [] []) stamp-head-size inside

        pub vote-statement : (q : Sought) (c : ℕ) → q.head ≡ vote_head → q.tail ≡ vote_tail form.term_bytes → VotesIn form c rs t
            → statement_at q t m ≡ say form (voted (ballot_for form c (get_or rs m (run [] []))))
        unfolding statement_at say
        vote-statement q c head tail h =
            let r = get_or rs m (run [] []) in
            let front = (form.first_kind + 2) ∷ form.cluster in
            rw (head, tail, vote-begins c h, vote-end c h, ballot-end c r) (append_assoc front (be 2 c) (vote_end form r))

        pub stamp-statement : (q : Sought) → q.head ≡ stamp_head → q.tail ≡ stamp_tail form.term_bytes → StampsIn form rs t
            → let r = get_or rs m (run [] []) in
            statement_at q t m ≡ say form (stamped (last_term r.upto) r.upto)
        unfolding statement_at say stamp_end
        stamp-statement q head tail h = rw (head, tail, stamp-begins h, stamp-end h)
