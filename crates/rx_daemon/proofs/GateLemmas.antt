-- One desk more.
use Rattle.std.proofs.Common.{◌≡◌, ◌∙◌, ℕ, ◌+◌, ◌≤◌, Bool, false, List, [], ◌∷◌, ◌++◌, ap, append_assoc, arith, length, length-append, refl, subst, sym}
use Rattle.std.specs.Prelude.{◌≢◌, None, Option, Some, is_some, slice_get}
use Rattle.std.specs.declared.sync.ledger.Blank.{Blank}
use Rattle.rx_daemon.specs.declared.gate.Left.{Left}
use Rattle.rx_daemon.specs.declared.gate.Left.TheVariants.{Lost}
use Rattle.rx_daemon.specs.Fronts.{GivesAll, GivesNext, IsGiven}
use Rattle.rx_daemon.specs.Gates.{IsGate}
use Rattle.rx_daemon.specs.Rights.{AreLeft, most_numbers}
use Rattle.rx_daemon.proofs.RightLemmas.{fewer-left, get-last}
use Rattle.rx_daemon.proofs.RunLemmas.{gives-more, gives-none}

-- the desk that left is that of its place
pub is-given : {D : Type 0} (a b c : Option (List D)) (gives : ℕ → D → Type 0) (before taken given : ℕ) (ds : List D) (d : D)
    → GivesAll a b ds → GivesNext b c (Some d) → length ds ≡ taken → before + taken ≡ given → gives (given + 1) d → IsGiven a gives before (taken + 1) d
is-given None b c gives before taken given ds d h k n e kind =
    let number : given + 1 ≡ before + (taken + 1) = omega (arith, e) in
    record { place = taken; number_is = refl; told = tt; kind = subst (λ m. gives m d) number kind }
is-given (Some xs) None c gives before taken given ds d h k n e kind = absurd h
is-given (Some xs) (Some ys) None gives before taken given ds d h k n e kind = absurd k
is-given (Some xs) (Some ys) (Some zs) gives before taken given ds d h k n e kind =
    let number : given + 1 ≡ before + (taken + 1) = omega (arith, e) in
    let all : xs ≡ ds ++ d ∷ zs = h ∙ ap (λ s. ds ++ s) k in record {
      place = taken;
      number_is = refl;
      told = ap (λ l. slice_get l taken) all ∙ subst (λ m. slice_get (ds ++ d ∷ zs) m ≡ Some d) n (get-last ds d zs);
      kind = subst (λ m. gives m d) number kind;
    }

-- where nothing says why the front can't be asked, it isn't lost
pub not-lost : (left : Option Left) → is_some left ≡ false → left ≢ Some Lost
not-lost None e = λ q. cc
not-lost (Some x) e = cc

module _ {F D : Type 0} (coming : F → Option (List D)) (faults given : F → ℕ) (over : F → Bool) (gives : ℕ → D → Type 0) (first : Option (List D))
    (first_gives : ℕ → D → Type 0) (first_faults first_given : ℕ) (rights : List Blank) where
  abbrev At : F → Option Left → ℕ → List Blank → Type 0
  At front left taken some =
      IsGate coming faults given over gives first first_gives first_faults first_given rights (record { front = front; left = left; taken = taken; rights = some })

  -- nothing was asked yet
  pub gate-first : (front : F) (taken : ℕ) → first ≡ coming front → first_faults ≡ faults front → first_given ≡ given front
      → ((n : ℕ) (desk : D) → gives n desk → first_gives n desk) → AreLeft rights rights → length rights ≡ most_numbers → taken ≡ 0 → At front None taken rights
  gate-first front taken same fault count kinds all most none = record {
    later = omega (arith, fault);
    lost = λ q. cc;
    desks = [];
    gave = subst (λ (a : Option (List D)). GivesAll a (coming front) []) (sym same) (gives-none (coming front));
    count = omega (arith, none);
    within = omega (arith, none, count);
    each = λ q. omega (arith, none, count);
    ended = λ q. cc;
    spent = λ q. cc;
    kinds = kinds;
    numbers = omega (arith, none);
    most = most;
    rights_are = all;
  }

  -- one desk more
  pub gate-more : (front later : F) (left : Option Left) (taken after : ℕ) (old some : List Blank) (right : Blank) (d : D) → At front left taken old
      → is_some left ≡ false → GivesNext (coming front) (coming later) (Some d) → given later ≡ given front + 1 → faults front ≤ faults later
      → after ≡ taken + 1 → old ≡ some ++ right ∷ [] → At later left after some
  gate-more front later (Some left) taken after old some right d h asked_for next counted rose more e = cc
  gate-more front later None taken after old some right d h asked_for next counted rose more e = record {
    later = omega (arith, h.later, rose);
    lost = λ q. cc;
    desks = h.desks ++ d ∷ [];
    gave = gives-more first (coming front) (coming later) h.desks d h.gave next;
    count = omega (arith, h.count, more, length-append h.desks (d ∷ []));
    within = omega (arith, h.within, counted, more);
    each = λ q. omega (arith, h.each (λ r. cc), counted, more);
    ended = λ q. cc;
    spent = λ q. cc;
    kinds = h.kinds;
    numbers = omega (arith, h.numbers, more, ap length e, length-append some (right ∷ []));
    most = h.most;
    rights_are = fewer-left rights old some right h.rights_are e;
  }
