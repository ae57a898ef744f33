-- Slips: which of them a number stands for, and what a pass that was used up says.
use Rattle.std.proofs.Common.{◌≡◌, ◌∙◌, List, [], ◌∷◌, ap, get_or, refl, subst, sym}
use Rattle.std.specs.Prelude.{IfSome, None, Option, Some}
use Rattle.rx_world.specs.declared.attempts.Attempt.TheVariants.{Local, Remote}
use Rattle.rx_world.specs.declared.decisions.Decision.{Decision}
use Rattle.rx_world.specs.declared.decisions.Decision.TheVariants.{By, Cancelled, Nothing, Undecided}
use Rattle.rx_race.specs.declared.events.Verdict.{Verdict}
use Rattle.rx_race.specs.declared.events.Verdict.TheVariants.{Late, Noted, Won}
use Rattle.rx_race.specs.declared.slips.Slip.{Slip}
use Rattle.rx_race.specs.declared.slips.Slip.TheVariants.{Live, Refused, Stopped, Told, Unused, Yielded}
use Rattle.rx_race.specs.Looking.{IsLooking}
use Rattle.rx_race.specs.Slips.{code, offered, seen_in, told_in}

-- ---- numbers

-- in the order of their numbers
abbrev in_order : List Slip
in_order =
    Unused ∷ Refused ∷ Live ∷ Told Won ∷ Told Late ∷ Told Noted
    ∷ Stopped Undecided ∷ Stopped (By Local) ∷ Stopped (By Remote) ∷ Stopped Cancelled
    ∷ Stopped Nothing
    ∷ Yielded Undecided ∷ Yielded (By Local) ∷ Yielded (By Remote) ∷ Yielded Cancelled
    ∷ Yielded Nothing ∷ []

coded : (slip : Slip) → get_or in_order (code slip) Unused ≡ slip
coded Unused = refl
coded Refused = refl
coded Live = refl
coded (Told Won) = refl
coded (Told Late) = refl
coded (Told Noted) = refl
coded (Stopped Undecided) = refl
coded (Stopped (By Local)) = refl
coded (Stopped (By Remote)) = refl
coded (Stopped Cancelled) = refl
coded (Stopped Nothing) = refl
coded (Yielded Undecided) = refl
coded (Yielded (By Local)) = refl
coded (Yielded (By Remote)) = refl
coded (Yielded Cancelled) = refl
coded (Yielded Nothing) = refl

-- no two slips have one number
pub code-same : (a b : Slip) → code a ≡ code b → a ≡ b
code-same a b e = sym (coded a) ∙ ap (λ n. get_or in_order n Unused) e ∙ coded b

-- ---- passes that were used up

-- what its attempt has seen stays
pub offer-seen : (slip : Slip) (v : Verdict) → seen_in (offered slip v) ≡ seen_in slip
offer-seen Unused v = refl
offer-seen Refused v = refl
offer-seen Live v = refl
offer-seen (Stopped s) v = refl
offer-seen (Yielded s) v = refl
offer-seen (Told w) v = refl

-- one whose attempt has seen a decision was late
told-late : (slip : Slip) (v : Verdict) → told_in slip ≡ Some v
    → IfSome (seen_in slip) (λ s. v ≡ Late)
told-late Unused v h = tt
told-late Refused v h = tt
told-late Live v h = tt
told-late (Stopped s) v h = cc
told-late (Yielded s) v h = cc
told-late (Told w) v h = tt

pub offer-late : (slip : Slip) (v : Verdict) → told_in (offered slip v) ≡ Some v
    → IfSome (seen_in slip) (λ s. v ≡ Late)
offer-late slip v h =
    subst (λ seen. IfSome seen (λ s. v ≡ Late)) (offer-seen slip v) (told-late (offered slip v) v h)

-- so one that was noted has seen none
pub noted-slip : (slip : Slip) → told_in slip ≡ Some Noted → slip ≡ Told Noted
noted-slip Unused h = cc
noted-slip Refused h = cc
noted-slip Live h = cc
noted-slip (Stopped s) h = cc
noted-slip (Yielded s) h = cc
noted-slip (Told w) h = let same : w ≡ Noted = cc in ap Told same

-- ---- looks

-- what was seen, the pass says, and goes on to say
pub looked-seen : (slip new : Slip) (seen : Option Decision) → IsLooking slip seen
    → seen_in new ≡ seen_in slip → IfSome seen (λ s. seen_in new ≡ Some s)
looked-seen slip new None looks same = tt
looked-seen slip new (Some s) looks same = same ∙ ap seen_in looks

pub looked-late : (slip : Slip) (v : Verdict) (seen : Option Decision) → IsLooking slip seen
    → IfSome (seen_in slip) (λ s. v ≡ Late) → IfSome seen (λ s. v ≡ Late)
looked-late slip v None looks late = tt
looked-late slip v (Some s) looks late = rw looks at late
