-- The desks that left the front of a run in threads, from the sessions that are kept.
use Rattle.std.proofs.Common.{◌≡◌, ◌<◌, ◌∙◌, ℕ, zero, suc, ◌+◌, ◌-◌, Bool, List, [], ◌∷◌, ◌++◌, ap, arith, get_or, length, refl, subst, sym}
use Rattle.std.specs.Prelude.{All, IfSome, None, Option, Some, slice_get}
use Rattle.std.specs.List.Sorted.{IsPermutation}
use Rattle.std.specs.declared.sync.ledger.Blank.{Blank}
use Rattle.std.proofs.lemmas.List.Elements.{All-from_recursion, All-head, All-tail}
use Rattle.std.proofs.lemmas.List.Sorted.{All-permutation, IsPermutation-refl, IsPermutation-sym, length_permutation}
use Rattle.std.proofs.lemmas.List.{get_or_default}
use Rattle.std.proofs.lemmas.Option.{slice_get-get_or, slice_get_within}
use Rattle.rx_board.specs.declared.journal.Entry.{Entry}
use Rattle.rx_board.specs.Board.{State}
use Rattle.rx_engine.specs.Meanings.{Meanings}
use Rattle.rx_engine.specs.Quiet.{IsQuiet}
use Rattle.rx_engine.specs.Session.{IsSession}
use Rattle.rx_engine.proofs.HonestRuns.{clean-done}
use Rattle.rx_world.specs.declared.outcomes.FileOut.{FileOut}
use Rattle.rx_world.specs.declared.places.Place as places
use Rattle.rx_daemon.specs.declared.gate.Left.{Left}
use Rattle.rx_daemon.specs.declared.served.ServedDesk.{ServedDesk}
use Rattle.rx_daemon.specs.CoreRuns.{IsCoreRun, rules_of}
use Rattle.rx_daemon.specs.Fronts.{GivesAll, IsGiven}
use Rattle.rx_daemon.specs.Gates.{IsGate}
use Rattle.rx_daemon.specs.Kept.{IsKept, IsServed, Linked, run_limit}
use Rattle.rx_daemon.specs.Serves.{Serves}
use Rattle.rx_daemon.specs.Threads.{AreDone, AreNumbered, AreServed, Chained, HavePublished, HaveRun, desk_of, number_of, transcripts_of}
use Rattle.rx_daemon.proofs.CoreRuns.{core-run}
use Rattle.rx_daemon.proofs.EachDone.{IsDone, each-done-in-threads}
use Rattle.rx_daemon.proofs.LegalLemmas.{run_legal}
use Rattle.rx_daemon.proofs.RightLemmas.{some-is}
use Rattle.rx_daemon.proofs.RunLemmas.{gives-none}

-- two lists as long, of which one begins a third that has the items of the other
same-front : {A : Type 0} (xs ys rest : List A) → length xs ≡ length ys → ((k : ℕ) (d : A) → k < length xs → slice_get (ys ++ rest) k ≡ Some (get_or xs k d)) → xs ≡ ys
same-front [] [] rest long h = refl
same-front [] (y ∷ ys) rest long h = absurd (omega (arith, long))
same-front (x ∷ xs) [] rest long h = absurd (omega (arith, long))
same-front (x ∷ xs) (y ∷ ys) rest long h =
    let first : y ≡ x = some-is (h 0 x (omega arith)) in
    let later = same-front xs ys rest (omega (arith, long)) (λ k d lt. h (suc k) d (omega (arith, lt))) in
    ap (λ z. z ∷ xs) (sym first) ∙ ap (λ zs. y ∷ zs) later

-- a list that isn't empty has an item
some-of : {A : Type 0} (xs : List A) (k : ℕ) → k < length xs → A
some-of [] k lt = absurd (omega arith)
some-of (x ∷ xs) k lt = x

-- each session is at the place of its number
pub placed : {D : Type 0} (served : List (ServedDesk D)) → AreNumbered served → All (λ s. slice_get served (number_of s - 1) ≡ Some s) served
placed served numbered k d lt =
    let number : number_of (get_or served k d) - 1 ≡ k = omega (arith, numbered k d lt) in
    ap (slice_get served) number ∙ slice_get-get_or served k d lt

module _ {D P W B : Type 0} (m : Meanings P W B) (parts : D → P) (root : List ℕ) (coming : Option (List D)) (gives : ℕ → D → Type 0) (before : ℕ)
    (rights : List Blank) where
  abbrev Is : ServedDesk D → Type 0
  Is = IsServed m parts root coming gives before rights

  -- their desks, as these left the front
  abbrev desks-of : (xs : List (ServedDesk D)) → All Is xs → List D
  desks-of [] h = []
  desks-of (x ∷ xs) h = (All-head Is x xs h).was ∷ desks-of xs (All-tail Is x xs h)

  length-desks : (xs : List (ServedDesk D)) (h : All Is xs) → length (desks-of xs h) ≡ length xs
  length-desks [] h = refl
  length-desks (x ∷ xs) h = ap suc (length-desks xs (All-tail Is x xs h))

  -- what is known at a place
  record At (s : ServedDesk D) (desk : D) : Type 0 where
    given : IsGiven coming gives before (number_of s) desk
    session : IsSession m root (parts desk) (parts s.desk) s.transcript

  desk-at : (xs : List (ServedDesk D)) (h : All Is xs) (k : ℕ) (d : D) (e : ServedDesk D) → k < length xs → At (get_or xs k e) (get_or (desks-of xs h) k d)
  desk-at [] h k d e lt = absurd (omega arith)
  desk-at (x ∷ xs) h zero d e lt = let is = All-head Is x xs h in record { given = is.given; session = is.session }
  desk-at (x ∷ xs) h (suc k) d e lt = desk-at xs (All-tail Is x xs h) k d e (omega (arith, lt))

  -- the desks, their sessions and their numbers, place by place
  are-served : (xs : List (ServedDesk D)) (h : All Is xs) → AreNumbered xs → AreServed m parts root gives before (desks-of xs h) xs
  are-served xs h numbered = record {
    count = length-desks xs h;
    numbered = numbered;
    kinds = λ k desk lt. kind-at k desk (omega (arith, lt, length-desks xs h));
    sessions = λ k desk s lt. (desk-at xs h k desk s (omega (arith, lt, length-desks xs h))).session;
  } where
    kind-at : (k : ℕ) (desk : D) → k < length xs → gives (before + (k + 1)) (get_or (desks-of xs h) k desk)
    kind-at k desk lt =
        let e = some-of xs k lt in
        subst (λ n. gives (before + n) (get_or (desks-of xs h) k desk)) (numbered k e lt) (desk-at xs h k desk e lt).given.kind

told-at : {D : Type 0} (gives : ℕ → D → Type 0) (before : ℕ) (all : List D) (k number : ℕ) (desk : D) → IsGiven (Some all) gives before number desk
    → number ≡ k + 1 → slice_get all k ≡ Some desk
told-at gives before all k number desk h e =
    let place : h.place ≡ k = omega (arith, h.number_is, e) in subst (λ n. slice_get all n ≡ Some desk) place h.told

gives-all : {D P W B : Type 0} (m : Meanings P W B) (parts : D → P) (root : List ℕ) (first now : Option (List D)) (gives : ℕ → D → Type 0) (before : ℕ)
    (rights : List Blank) (xs : List (ServedDesk D)) (desks : List D) (h : All (IsServed m parts root first gives before rights) xs) → AreNumbered xs
    → GivesAll first now desks → length desks ≡ length xs → GivesAll first now (desks-of m parts root first gives before rights xs h)
gives-all m parts root None now gives before rights xs desks h numbered gave long = tt
gives-all m parts root (Some all) None gives before rights xs desks h numbered gave long = absurd gave
gives-all {D = D} m parts root (Some all) (Some rest) gives before rights xs desks h numbered gave long =
    let lefts = desks-of m parts root (Some all) gives before rights xs h in
    let count = length-desks m parts root (Some all) gives before rights xs h in
    let same : lefts ≡ desks = same-front lefts desks rest (omega (arith, long, count)) (λ k d lt. at k d (omega (arith, lt, count))) in
    gave ∙ ap (λ l. l ++ rest) (sym same) where
      at : (k : ℕ) (d : D) → k < length xs → slice_get (desks ++ rest) k ≡ Some (get_or (desks-of m parts root (Some all) gives before rights xs h) k d)
      at k d lt =
          let e = some-of xs k lt in
          let is = desk-at m parts root (Some all) gives before rights xs h k d e lt in
          ap (λ l. slice_get l k) (sym gave)
          ∙ told-at gives before all k (number_of (get_or xs k e)) (get_or (desks-of m parts root (Some all) gives before rights xs h) k d) is.given (numbered k e lt)

-- ---- the order in which they published

module _ {D P W B : Type 0} (m : Meanings P W B) (parts : D → P) (root : List ℕ) (gives : ℕ → D → Type 0) (before : ℕ) (left : List D)
    (served : List (ServedDesk D)) (each : AreServed m parts root gives before left served) where
  -- a session of the list is that of its number's desk
  own-of : (s : ServedDesk D) → slice_get served (number_of s - 1) ≡ Some s → IsSession m root (parts (desk_of left s)) (parts s.desk) s.transcript
  own-of s at =
      let inside = slice_get_within served (number_of s - 1) s at in
      let is : get_or served (number_of s - 1) s ≡ s = some-is (sym (slice_get-get_or served (number_of s - 1) s inside) ∙ at) in
      let own = each.sessions (number_of s - 1) s.desk s (omega (arith, inside, each.count)) in
      subst (λ (x : ServedDesk D). IsSession m root (parts (desk_of left s)) (parts x.desk) x.transcript) is own

  chain : (limit : ℕ) (old new : List Entry) (pb pn : ℕ) (ss : List (ServedDesk D)) → All (λ s. slice_get served (number_of s - 1) ≡ Some s) ss
      → Linked m root limit old new pb pn (transcripts_of ss) → Chained (Serves m parts root limit) left old new pb pn ss
  chain limit old new pb pn [] at h = h
  chain limit old new pb pn (s ∷ ss) at h =
      let own = own-of s (All-head (λ x. slice_get served (number_of x - 1) ≡ Some x) s ss at) in (
        h.0,
        h.1,
        record {
          own = own;
          number_is = refl;
          journal = h.2.journal;
          later = h.2.later;
          clean = λ bytes asked entries honest. clean-done _ _ _ _ _ _ _ _ _ _ bytes asked entries own h.2.journal honest;
        },
        chain limit h.0 new h.1 pn ss (All-tail (λ x. slice_get served (number_of x - 1) ≡ Some x) s ss at) h.3,
      )

  -- what holds of each of them holds place by place
  are-done : (limit : ℕ) → All (IsDone m parts root limit left) served → AreDone m parts root left served
  are-done limit all k desk s lt bytes asked quiet =
      let inside : k < length served = omega (arith, lt, each.count) in
      let x = get_or served k s in
      let number : number_of x - 1 ≡ k = omega (arith, each.numbered k s inside) in
      let same : desk_of left x ≡ get_or left k desk = ap (λ n. get_or left n x.desk) number ∙ get_or_default left k x.desk desk lt in
      all k s inside bytes asked (subst (λ d. IsQuiet m root (parts d) (parts x.desk) bytes asked) (sym same) quiet)

-- the whole
pub have-run : {F D P Q W B : Type 0} (m : Meanings P W B) (p : places.Ghosts Q) (parts : D → P) (root : List ℕ) (opening : Option (List FileOut))
    (coming : F → Option (List D)) (faults given : F → ℕ) (over : F → Bool) (kinds : ℕ → D → Type 0) (first : Option (List D)) (gives : ℕ → D → Type 0)
    (first_faults before most : ℕ) (rights : List Blank) (front : F) (end : Option Left) (taken : ℕ) (some : List Blank) (board : State Q)
    (published served : List (ServedDesk D)) (concluded out : ℕ) (asked : Bool)
    → IsGate coming faults given over kinds first gives first_faults before rights (record { front = front; left = end; taken = taken; rights = some })
    → IsKept m p parts root opening first gives before rights most
    (record { board = board; served = published; concluded = concluded; out = out; asked = asked })
    → taken ≡ concluded → IsPermutation published served → AreNumbered served → ((n : ℕ) (desk : D) → gives n desk → kinds n desk)
    → HaveRun m parts root run_limit kinds first (coming front) before most board.journal (p.faults board.place) served
have-run m p parts root opening coming faults given over kinds first gives first_faults before most rights front end taken some board published served
    concluded out asked gate kept even same numbered back =
    let Served = IsServed m parts root first gives before rights in
    let all = All-permutation Served published served same kept.all_are in
    let long = length_permutation published served same in
    let left = desks-of m parts root first gives before rights served all in
    let each = are-served m parts root first gives before rights served all numbered in
    let at = All-permutation (λ s. slice_get served (number_of s - 1) ≡ Some s) served published (IsPermutation-sym published served same)
    (placed served numbered) in
    let chained = chain m parts root gives before left served each run_limit [] board.journal 0 (p.faults board.place) published at kept.linked in
    record {
      left = left;
      given = gives-all m parts root first (coming front) gives before rights served gate.desks all numbered gate.gave
          (omega (arith, gate.count, even, kept.each, long));
      each = record {
        count = each.count;
        numbered = numbered;
        kinds = λ k desk lt. back (before + (k + 1)) _ (each.kinds k desk lt);
        sessions = each.sessions;
      };
      order = record {
        published = published;
        all_are = same;
        in_order = kept.in_order;
        chained = chained;
        legal = run_legal m root run_limit board.journal (p.faults board.place) (transcripts_of published) kept.linked;
        late = λ e. let l = kept.late (kept.asked_is ∙ e) in omega (arith, l);
      };
      done = λ room quiet.
          let done = each-done-in-threads m parts root run_limit left [] board.journal 0 (p.faults board.place) published chained room quiet in
          are-done m parts root gives before left served each run_limit
          (All-permutation (IsDone m parts root run_limit left) published served same (All-from_recursion (IsDone m parts root run_limit left) published done));
    }

-- nothing was asked of the front
pub no-run : {D P W B : Type 0} (m : Meanings P W B) (parts : D → P) (root : List ℕ) (limit : ℕ) (gives : ℕ → D → Type 0) (first : Option (List D))
    (before most : ℕ) (journal : List Entry) (faults : ℕ) (served : List (ServedDesk D)) → journal ≡ [] → faults ≡ 0 → served ≡ []
    → HaveRun m parts root limit gives first first before most journal faults served
no-run m parts root limit gives first before most journal faults served none never nobody = rw (none, never, nobody) (record {
  left = [];
  given = gives-none first;
  each = record {
    count = refl;
    numbered = λ k d lt. absurd (omega (arith, lt));
    kinds = λ k desk lt. absurd (omega (arith, lt));
    sessions = λ k desk s lt. absurd (omega (arith, lt));
  };
  order = record {
    published = [];
    all_are = IsPermutation-refl [];
    in_order = λ k d lt. absurd (omega (arith, lt));
    chained = (refl, refl);
    legal = refl;
    late = λ e. absurd (let q = e in cc);
  };
  done = λ room quiet k desk s lt. absurd (omega (arith, lt));
})

pub no-run-below : {D P W B : Type 0} (m : Meanings P W B) (parts : D → P) (found : Option (List ℕ)) (limit : ℕ) (gives : ℕ → D → Type 0)
    (first : Option (List D)) (before most : ℕ) (journal : List Entry) (faults : ℕ) (served : List (ServedDesk D)) → journal ≡ [] → faults ≡ 0
    → served ≡ [] → IfSome found (λ root. HaveRun m parts root limit gives first first before most journal faults served)
no-run-below m parts None limit gives first before most journal faults served none never nobody = tt
no-run-below m parts (Some root) limit gives first before most journal faults served none never nobody =
    no-run m parts root limit gives first before most journal faults served none never nobody

pub no-core-below : {D P W B : Type 0} (m : Meanings P W B) (found : Option (List ℕ)) (limit : ℕ) (files : List FileOut) (journal : List Entry)
    (served : List (ServedDesk D)) → journal ≡ [] → served ≡ []
    → IfSome found (λ root. IsCoreRun (rules_of m) files limit journal (transcripts_of served))
no-core-below m None limit files journal served none nobody = tt
no-core-below m (Some root) limit files journal served none nobody =
    rw (none, nobody) (core-run m root limit [] 0 [] files tt (refl, refl))

-- what holds anyway
pub if-anyway : {A B : Type 0} (found : Option A) → B → IfSome found (λ x. B)
if-anyway None holds = tt
if-anyway (Some x) holds = holds
