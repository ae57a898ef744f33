-- Looks at one path after the other, and what is known of them then.
use Rattle.std.proofs.Common.{◌≡◌, ℕ, ◌+◌, ◌<◌, List, [], ◌∷◌, length, get_or, take, sym, subst}
use Rattle.std.specs.Prelude.{IfSome, None, Option, Some}
use Rattle.std.proofs.lemmas.List.Elements.{All-append, All-cons, All-nil}
use Rattle.rx_world.specs.declared.looks.Look.{Look}
use Rattle.rx_world.specs.declared.sources.Given.{Given}
use Rattle.rx_world.specs.declared.sources.Sources as sources
use Rattle.rx_world.specs.declared.world.World as world
use Rattle.rx_reach.specs.Scans.{Scans}
use Rattle.rx_reach.specs.Scenes.{AreRight, Scene}
use Rattle.rx_reach.specs.Sights.{AreKnownAt, IsKnownAt, Notes, seen_at}
use Rattle.rx_scan.proofs.InputSteps.{taken}
use Rattle.rx_reach.proofs.KnownLemmas.{all-kept, known-kept}
use Rattle.rx_reach.proofs.ScanLemmas.{scans-join}
use Rattle.rx_reach.proofs.SightLemmas.{right-noted}

abbrev Sights : Type 0
Sights = List (List ℕ × Look)

-- one path more was looked at
pub looks-known : (mid new : Sights) (answers : List Given) (paths : List (List ℕ)) (i : ℕ) (path : List ℕ) (look : Look) → i < length paths → path ≡ get_or paths i path
    → AreKnownAt mid (take i paths) → Notes mid new answers → seen_at new path ≡ Some look → AreKnownAt new (take (i + 1) paths)
looks-known mid new answers paths i path look h e known n seen =
    subst (AreKnownAt new) (sym (taken paths i path h e))
    (All-append (IsKnownAt new) (take i paths) (path ∷ []) (all-kept mid new answers (take i paths) n known) (All-cons (IsKnownAt new) path [] (look, seen) (All-nil (IsKnownAt new))))

-- what was looked at stays so
pub if-known : (old new : Sights) (answers : List Given) (hard : Option (List ℕ)) → Notes old new answers → IfSome hard (IsKnownAt old) → IfSome hard (IsKnownAt new)
if-known old new answers None n h = tt
if-known old new answers (Some path) n h = known-kept old new answers path n h

module _ {T W : Type 0} (w : world.Ghosts W) (s : sources.Ghosts T W) where
  -- what is known stays
  pub scans-known : (a b : T) (old new : Sights) (P : Scene → Type 0) (paths : List (List ℕ)) → Scans w s a b old new P → AreKnownAt old paths → AreKnownAt new paths
  scans-known a b old new P paths k h = all-kept old new k.answers paths k.notes h

  -- what was seen is right where the answers are
  pub scans-right : (a b : T) (old new : Sights) (P : Scene → Type 0) → Scans w s a b old new P → Scans w s a b old new (λ scene. AreRight scene new)
  scans-right a b old new P k = record { answers = k.answers; gives = k.gives; notes = k.notes; known = λ scene r all. right-noted scene old new k.answers k.notes r all }

  pub both-looked : (a b c : T) (old mid new : Sights) (P Q : Scene → Type 0) → Scans w s a b old mid P → Scans w s b c mid new Q → Scans w s a c old new Q
  both-looked a b c old mid new P Q k l = scans-join w s a b c old mid new P Q Q k l (λ scene p q. q)
