-- One session more.
use Rattle.std.proofs.Common.{◌≡◌, ◌<◌, ◌≤◌, ◌∙◌, ℕ, ◌+◌, ◌-◌, ◌||◌, Bool, true, false, List, [], ◌∷◌, ◌++◌, arith, get_or, inl, inr, length, length-append, refl, subst, sym}
use Rattle.std.specs.Prelude.{Option}
use Rattle.std.specs.declared.sync.ledger.Blank.{Blank}
use Rattle.std.proofs.lemmas.Bool.{cases_lt}
use Rattle.std.proofs.lemmas.List.{get_or_append_left, get_or_push}
use Rattle.std.proofs.lemmas.List.Elements.{All-push}
use Rattle.std.proofs.lemmas.List.Folds.{list_any-append}
use Rattle.rx_board.specs.declared.journal.Entry.{Entry}
use Rattle.rx_board.specs.Board.{State}
use Rattle.rx_engine.specs.declared.transcripts.Transcript.{Transcript}
use Rattle.rx_engine.specs.Journal.{IsJournalled}
use Rattle.rx_engine.specs.Meanings.{Meanings}
use Rattle.rx_engine.specs.Session.{IsSession}
use Rattle.rx_world.specs.declared.outcomes.FileOut.{FileOut}
use Rattle.rx_world.specs.declared.places.Place as places
use Rattle.rx_daemon.specs.declared.served.ServedDesk.{ServedDesk}
use Rattle.rx_daemon.specs.Kept.{IsKept, IsLink, IsServed, Linked, run_limit}
use Rattle.rx_daemon.specs.Threads.{AreInOrder, asks, behind, is_asked, transcripts_of}

-- ---- the end of the run

asked-more : {D : Type 0} (ss : List (ServedDesk D)) (s : ServedDesk D) → (is_asked ss || asks s) ≡ is_asked (ss ++ s ∷ [])
asked-more ss s = or-false (is_asked ss) (asks s) ∙ sym (list_any-append asks ss (s ∷ [])) where
  or-false : (a b : Bool) → (a || b) ≡ (a || (b || false))
  or-false true b = refl
  or-false false true = refl
  or-false false false = refl

-- behind one that asked there is one more, and behind none there is none
behind-more : {D : Type 0} (ss : List (ServedDesk D)) (s : ServedDesk D) → is_asked ss ≡ true → length (behind (ss ++ s ∷ [])) ≡ length (behind ss) + 1
behind-more [] s h = cc
behind-more (x ∷ ss) s h = by-first (asks x) refl (behind-more ss s) where
  by-first : (b : Bool) → asks x ≡ b → (is_asked ss ≡ true → length (behind (ss ++ s ∷ [])) ≡ length (behind ss) + 1)
      → length (behind (x ∷ ss ++ s ∷ [])) ≡ length (behind (x ∷ ss)) + 1
  by-first true e more = rw e (length-append ss (s ∷ []))
  by-first false e more = rw e (more (rw e at h))

behind-none : {D : Type 0} (ss : List (ServedDesk D)) (s : ServedDesk D) → is_asked ss ≡ false → length (behind (ss ++ s ∷ [])) ≡ 0
behind-none [] s h = by-one (asks s) refl where
  by-one : (b : Bool) → asks s ≡ b → length (behind (s ∷ [])) ≡ 0
  by-one true e = rw e refl
  by-one false e = rw e refl
behind-none (x ∷ ss) s h = by-first (asks x) refl (behind-none ss s) where
  by-first : (b : Bool) → asks x ≡ b → (is_asked ss ≡ false → length (behind (ss ++ s ∷ [])) ≡ 0) → length (behind (x ∷ ss ++ s ∷ [])) ≡ 0
  by-first true e none = absurd (let q = rw e at h in cc)
  by-first false e none = rw e (none (rw e at h))

late-more : {D : Type 0} (ss : List (ServedDesk D)) (s : ServedDesk D) (asked : Bool) (out most : ℕ) → asked ≡ is_asked ss
    → (asked ≡ true → length (behind ss) + out < most) → out ≤ most → 0 < out → length (behind (ss ++ s ∷ [])) + (out - 1) < most
late-more ss s true out most is late within some = let b = late refl in omega (arith, b, some, behind-more ss s (sym is))
late-more ss s false out most is late within some = omega (arith, within, some, behind-none ss s (sym is))

-- ---- the order, and the journal

-- what holds of each place holds with one more behind
pub places-more : {X : Type 0} (Q : ℕ → X → Type 0) (xs : List X) (x : X) → ((k : ℕ) (d : X) → k < length xs → Q k (get_or xs k d)) → Q (length xs) x
    → (k : ℕ) (d : X) → k < length (xs ++ x ∷ []) → Q k (get_or (xs ++ x ∷ []) k d)
places-more Q xs x h last k d lt =
    elim (cases_lt k (length xs)) [
      | inl inside ↦ subst (λ y. Q k y) (sym (get_or_append_left xs (x ∷ []) d k inside)) (h k d inside)
      | inr past ↦
          let at : length xs ≡ k = omega (arith, past, lt, length-append xs (x ∷ [])) in
          subst (λ y. Q k y) (sym (get_or_push xs x d k at)) (subst (λ n. Q n x) at last)
    ]

in-order-more : {D : Type 0} (ss : List (ServedDesk D)) (s : ServedDesk D) → AreInOrder ss → s.before ≡ length ss → AreInOrder (ss ++ s ∷ [])
in-order-more {D = D} ss s h is = places-more (λ k (x : ServedDesk D). x.before ≡ k) ss s h is

module _ {D P Q W B : Type 0} (m : Meanings P W B) (p : places.Ghosts Q) (parts : D → P) (root : List ℕ) (opening : Option (List FileOut))
    (coming : Option (List D)) (gives : ℕ → D → Type 0) (before : ℕ) (rights : List Blank) (most : ℕ) where
  linked-more : (limit : ℕ) (old mid new : List Entry) (pb pm pn : ℕ) (ss : List (ServedDesk D)) (s : ServedDesk D)
      → Linked m root limit old mid pb pm (transcripts_of ss) → IsLink m root limit mid new pm pn s.transcript
      → Linked m root limit old new pb pn (transcripts_of (ss ++ s ∷ []))
  linked-more limit old mid new pb pm pn [] s h link = (new, pn, rw (h.0, h.1) at link, (refl, refl))
  linked-more limit old mid new pb pm pn (x ∷ ss) s h link = (h.0, h.1, h.2, linked-more limit h.0 mid new h.1 pm pn ss s h.3 link)

  abbrev Is : State Q → List (ServedDesk D) → ℕ → ℕ → Bool → Type 0
  Is board served concluded out asked =
      IsKept m p parts root opening coming gives before rights most
      (record { board = board; served = served; concluded = concluded; out = out; asked = asked })

  pub kept-more : (board after : State Q) (served : List (ServedDesk D)) (concluded now out : ℕ) (asked : Bool) (s : ServedDesk D)
      → Is board served concluded out asked → IsServed m parts root coming gives before rights s → s.before ≡ length served
      → IsJournalled run_limit board.journal after.journal (p.faults board.place) (p.faults after.place) s.transcript
      → p.faults board.place ≤ p.faults after.place → after.limit ≡ board.limit → p.opening after.place ≡ p.opening board.place
      → now ≡ concluded + 1 → 0 < out → Is after (served ++ s ∷ []) now (out - 1) (asked || asks s)
  kept-more board after served concluded now out asked s h is place journal later limit same more some = record {
    limit = limit ∙ h.limit;
    opening_is = same ∙ h.opening_is;
    linked = linked-more run_limit [] board.journal after.journal 0 (p.faults board.place) (p.faults after.place) served s h.linked (record {
      parts_old = parts is.was;
      parts_new = parts s.desk;
      own = is.session;
      journal = journal;
      later = later;
    });
    all_are = All-push (IsServed m parts root coming gives before rights) served s h.all_are is;
    in_order = in-order-more served s h.in_order place;
    each = omega (arith, h.each, more, length-append served (s ∷ []));
    within = omega (arith, h.within);
    asked_is = rw h.asked_is (asked-more served s);
    late = λ e. late-more served s asked out most h.asked_is h.late h.within some;
  }

  pub kept-fewer : (board : State Q) (served : List (ServedDesk D)) (concluded out : ℕ) (asked : Bool) → Is board served concluded out asked
      → Is board served concluded (out - 1) asked
  kept-fewer board served concluded out asked h = record {
    limit = h.limit;
    opening_is = h.opening_is;
    linked = h.linked;
    all_are = h.all_are;
    in_order = h.in_order;
    each = h.each;
    within = omega (arith, h.within);
    asked_is = h.asked_is;
    late = λ e. let l = h.late e in omega (arith, l);
  }
