-- A place by the fields as the code holds them; and both tables one term further.
-- Assumes nothing.
use mathlib.Core.Path.{◌≡◌, refl, sym, ap, subst, ◌∙◌}
use mathlib.Core.List.{List, [], ◌∷◌, ◌++◌, append_assoc, append-nil, flat_map}
use Prim.Native.Nat.{ℕ, suc, ◌+◌, ◌-◌, ◌*◌, ◌≤◌, ◌<◌}
use native.Mathlib.Nat.{mul-zero, mul-suc, mul-le-mul_left}
use native.Mathlib.Omega.{arith}
use borrow.Rule.Slice.PartMut.{put_mid}
use lib.ListN.{length, take, drop, length-append}
use lib.Seq.{length-take-le}
use Rattle.words.specs.BigEndian.{be}
use Rattle.words.specs.Over.{over}
use Rattle.words.proofs.Over.{over-length, over-taken}
use Rattle.words.proofs.FlatMap.{flat_map-one}
use Rattle.roster.specs.Roster.{name_size}
use Rattle.log_chain.specs.Log.{with_terms, Record, last_term, pointer}
use Rattle.log_chain.specs.Claim.{place}
use Rattle.log_chain.specs.Runs.{Run, run}
use Rattle.log_chain.proofs.Pointers.{pointer_form}
use Rattle.submission.specs.Validate.{leader_most}
use Rattle.assembly_terms.specs.Wanted.{vote_head, vote_tail, stamp_head, stamp_tail, vote_end, stamp_end, votes_wanted, stamps_wanted, votes_room, stamps_room, VotesIn, StampsIn}
use Rattle.assembly_terms.specs.Added.{EndsAdded}
use Rattle.assembly_terms.proofs.Tables.{rows-length, begins_more, lent_length}
use Rattle.assembly_terms.proofs.Wanted.{vote-end-size, stamp-end-size}

pub place_fields : (w : ℕ) (log : List Record) {t i : ℕ} {p : List ℕ} → t ≡ last_term log → i ≡ length log → p ≡ pointer (with_terms w []) log
    → be w t ++ be 4 i ++ p ≡ place (with_terms w []) (last_term log) log
unfolding place
place_fields w log term index last = λ k. be w (term k) ++ be 4 (index k) ++ last k

-- what a writer leaves, of the term that begins after some records and ends with others
module _ (w : ℕ) (before upto : List Record) (rest : List ℕ) {last : List ℕ} where
  pub vote-told : {t : ℕ} → t ≡ last_term upto → last ≡ over (be w t ++ place (with_terms w []) (last_term before) before) rest
      → last ≡ over (vote_end (with_terms w []) (run before upto)) rest
  unfolding vote_end run
  vote-told e put = put ∙ ap (λ (t : ℕ). over (be w t ++ place (with_terms w []) (last_term before) before) rest) e

  pub stamp-told : last ≡ over (place (with_terms w []) (last_term upto) upto) rest → last ≡ over (stamp_end (with_terms w []) (run before upto)) rest
  unfolding stamp_end run
  stamp-told put = put

-- ---- one table

-- it has the ends of some terms, each of n bytes, behind its head, and the next one's place is known
pub record Filled (head n : ℕ) (f : Run → List ℕ) (done : List Run) (entry table : List ℕ) (at : ℕ) : Type 0 where
  pub next : at ≡ head + n * length done
  pub inside : at ≤ length table
  pub size : length table ≡ length entry
  pub room : head + n * leader_most ≤ length table
  pub added : EndsAdded head f done entry table

module _ (head n : ℕ) (f : Run → List ℕ) where
  filled_none : (entry : List ℕ) → head + n * leader_most ≤ length entry → Filled head n f [] entry entry head
  unfolding EndsAdded flat_map
  filled_none entry room =
      let first = length-take-le head entry (omega arith) in
      record {
        next = rw mul-zero (omega arith);
        inside = omega arith;
        size = refl;
        room = room;
        added = rw (append-nil (take head entry), first);
      }

  module _ (each : (x : Run) → length (f x) ≡ n) (done : List Run) (entry table : List ℕ) (at : ℕ) (filled : Filled head n f done entry table at)
      (few : length done < leader_most) where
    filled-room : at + n ≤ length table
    filled-room =
        let more : n * length done + n ≤ n * leader_most = rw (← mul-suc) (mul-le-mul_left n few) in
        omega (arith, more, filled.next, filled.room)

    pub filled_more : (x : Run) (last : List ℕ) {size : ℕ} → size ≡ n → last ≡ over (f x) (take (length table - at) (drop at table))
        → Filled head n f (done ++ (x ∷ [])) entry (put_mid at (length table - at) table last) (at + size)
    unfolding EndsAdded
    filled_more x last {size} e put =
        let front = take head entry in
        let b = front ++ flat_map f done in
        let whole : b ++ f x ≡ front ++ flat_map f (done ++ (x ∷ [])) =
        append_assoc front (flat_map f done) (f x) ∙ ap (λ (l : List ℕ). front ++ l) (sym (flat_map-one f done x)) in
        let long : length b ≡ at =
        length-append front (flat_map f done) ∙ rw (length-take-le head entry (omega (arith, filled.size, filled.room)), rows-length f n each done) (sym filled.next) in
        let count : length (done ++ (x ∷ [])) ≡ suc (length done) = omega (arith, length-append done (x ∷ [])) in
        let room : at + length (f x) ≤ length table = omega (arith, filled-room, each x) in
        let kept = lent_length b table filled.added (f x) last at long room put in
        record {
          next = rw (count, mul-suc) (omega (arith, filled.next, e));
          inside = omega (arith, filled-room, e, kept);
          size = kept ∙ filled.size;
          room = rw kept filled.room;
          added = ap (λ (l : List ℕ). take (length l) (put_mid at (length table - at) table last)) (sym whole) ∙ begins_more b table filled.added (f x) last at long room put ∙ whole;
        }

-- ---- both tables

-- some of the terms are done, and the others left
pub record Filling (w : ℕ) (rs left : List Run) (votes₀ stamps₀ votes stamps : List ℕ) (vote stamp count : ℕ) : Type 0 where
  pub done : List Run
  pub all : rs ≡ done ++ left
  pub counted : count ≡ length done
  pub voted : Filled vote_head (vote_tail w) (vote_end (with_terms w [])) done votes₀ votes vote
  pub stamped : Filled stamp_head (stamp_tail w) (stamp_end (with_terms w [])) done stamps₀ stamps stamp

pub filling_none : (w : ℕ) (rs : List Run) (votes stamps : List ℕ) → vote_head + vote_tail w * leader_most ≤ length votes
    → stamp_head + stamp_tail w * leader_most ≤ length stamps → Filling w rs rs votes stamps votes stamps vote_head stamp_head 0
filling_none w rs votes stamps v s =
    record {
      done = [];
      all = refl;
      counted = refl;
      voted = filled_none vote_head (vote_tail w) (vote_end (with_terms w [])) votes v;
      stamped = filled_none stamp_head (stamp_tail w) (stamp_end (with_terms w [])) stamps s;
    }

module _ (w : ℕ) (rs left : List Run) (votes₀ stamps₀ votes stamps : List ℕ) (vote stamp count : ℕ)
    (filling : Filling w rs left votes₀ stamps₀ votes stamps vote stamp count) where
  -- no term is left
  pub filling-over : left ≡ []
      → (count ≡ length rs) × EndsAdded vote_head (vote_end (with_terms w [])) rs votes₀ votes × EndsAdded stamp_head (stamp_end (with_terms w [])) rs stamps₀ stamps
  filling-over e =
      let whole : rs ≡ filling.done = filling.all ∙ ap (λ l. filling.done ++ l) e ∙ append-nil filling.done in
      rw whole (filling.counted, filling.voted.added, filling.stamped.added)

  -- one is, of few
  module _ {x : Run} {rest : List Run} (e : left ≡ x ∷ rest) (few : length rs ≤ leader_most) where
    fewer : length filling.done < leader_most
    fewer = omega (arith, ap length filling.all, length-append filling.done left, ap length e)

    pub count_room : count < leader_most
    count_room = omega (arith, fewer, filling.counted)

    pub vote-room : vote + vote_tail w ≤ length votes
    vote-room = filled-room vote_head (vote_tail w) (vote_end (with_terms w [])) (vote-end-size (with_terms w [])) filling.done votes₀ votes vote filling.voted fewer

    pub stamp-room : stamp + stamp_tail w ≤ length stamps
    stamp-room = filled-room stamp_head (stamp_tail w) (stamp_end (with_terms w [])) (stamp-end-size (with_terms w [])) filling.done stamps₀ stamps stamp filling.stamped fewer

    pub filling-more : (last_vote last_stamp : List ℕ) {v s : ℕ} → v ≡ vote_tail w → s ≡ stamp_tail w
        → last_vote ≡ over (vote_end (with_terms w []) x) (take (length votes - vote) (drop vote votes))
        → last_stamp ≡ over (stamp_end (with_terms w []) x) (take (length stamps - stamp) (drop stamp stamps))
        → Filling w rs rest votes₀ stamps₀ (put_mid vote (length votes - vote) votes last_vote) (put_mid stamp (length stamps - stamp) stamps last_stamp)
        (vote + v) (stamp + s) (count + 1)
    filling-more last_vote last_stamp v s put_vote put_stamp =
        record {
          done = filling.done ++ (x ∷ []);
          all = filling.all ∙ ap (λ l. filling.done ++ l) e ∙ sym (append_assoc filling.done (x ∷ []) rest);
          counted = omega (arith, filling.counted, length-append filling.done (x ∷ []));
          voted = filled_more vote_head (vote_tail w) (vote_end (with_terms w [])) (vote-end-size (with_terms w [])) filling.done votes₀ votes vote filling.voted fewer x last_vote v put_vote;
          stamped = filled_more stamp_head (stamp_tail w) (stamp_end (with_terms w [])) (stamp-end-size (with_terms w [])) filling.done stamps₀ stamps stamp filling.stamped fewer x last_stamp s put_stamp;
        }

-- ---- the heads

place_form : (w : ℕ) (name : List ℕ) (t : ℕ) (log : List Record) → place (with_terms w []) t log ≡ place (with_terms w name) t log
unfolding place
place_form w name t log = ap (λ (p : List ℕ). be w t ++ be 4 (length log) ++ p) (pointer_form (with_terms w []) (with_terms w name) refl log)

-- a table whose head was written first, with what is behind it said otherwise
headed : (head : ℕ) (f g : Run → List ℕ) (B entry : List ℕ) (rs : List Run) (exit : List ℕ) {mid : List ℕ} → head ≡ length B → mid ≡ over B entry
    → ((r : Run) → f r ≡ g r) → EndsAdded head f rs mid exit → take (length (B ++ flat_map g rs)) exit ≡ B ++ flat_map g rs
unfolding EndsAdded
headed head f g B entry rs exit size put same added =
    let first = ap (take head) put ∙ over-taken B entry head size in
    subst (λ (l : List ℕ). take (length l) exit ≡ l) (λ i. first i ++ flat_map (λ r. same r i) rs) added

module _ (w : ℕ) (name : List ℕ) (named : length name ≡ name_size) (entry : List ℕ) {mid : List ℕ} where
  pub votes-kept : mid ≡ over (3 ∷ name ++ (0 ∷ 0 ∷ [])) entry → votes_room w ≤ length entry → length mid ≡ length entry
  votes-kept put room =
      ap length put ∙ over-length (3 ∷ name ++ (0 ∷ 0 ∷ [])) entry (omega (arith, named, length-append name (0 ∷ 0 ∷ []), room))

  pub stamps-kept : mid ≡ over (1 ∷ name ++ []) entry → stamps_room w ≤ length entry → length mid ≡ length entry
  stamps-kept put room = ap length put ∙ over-length (1 ∷ name ++ []) entry (omega (arith, named, length-append name [], room))

module _ (w : ℕ) (name : List ℕ) (named : length name ≡ name_size) (rs : List Run) (entry exit : List ℕ) {mid : List ℕ} where
  pub votes-headed : mid ≡ over (3 ∷ name ++ (0 ∷ 0 ∷ [])) entry → EndsAdded vote_head (vote_end (with_terms w [])) rs mid exit
      → VotesIn (with_terms w name) 0 rs exit
  unfolding VotesIn votes_wanted vote_end be
  votes-headed put added =
      headed vote_head (vote_end (with_terms w [])) (vote_end (with_terms w name)) (3 ∷ name ++ (0 ∷ 0 ∷ [])) entry rs exit
      (omega (arith, named, length-append name (0 ∷ 0 ∷ []))) put
      (λ r. ap (λ (p : List ℕ). be w (last_term r.upto) ++ p) (place_form w name (last_term r.before) r.before)) added

  pub stamps-headed : mid ≡ over (1 ∷ name ++ []) entry → EndsAdded stamp_head (stamp_end (with_terms w [])) rs mid exit
      → StampsIn (with_terms w name) rs exit
  unfolding StampsIn stamps_wanted stamp_end
  stamps-headed put added =
      headed stamp_head (stamp_end (with_terms w [])) (stamp_end (with_terms w name)) (1 ∷ name) entry rs exit (omega (arith, named))
      (put ∙ ap (λ (l : List ℕ). over (1 ∷ l) entry) (append-nil name)) (λ r. place_form w name (last_term r.upto) r.upto) added
