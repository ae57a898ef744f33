-- The paths that make a command hard were looked at.
use Rattle.std.proofs.Common.{◌≡◌, ℕ, ◌⊎◌, inl, inr, Bool, true, List, [], refl, sym, ap, subst, true≢false}
use Rattle.std.proofs.lemmas.List.Elements.{All-contains, All-nil, All-weaker}
use Rattle.std.specs.Prelude.{Contains, IfSome, None, Option, Some}
use Rattle.rx_world.specs.declared.looks.Look.{Look}
use Rattle.rx_world.specs.declared.looks.Look.TheVariants.{Absent}
use Rattle.rx_world.specs.declared.sources.Given.{Given}
use Rattle.rx_reach.specs.declared.progress.Progress.{Progress}
use Rattle.rx_reach.specs.declared.tries.Candidate.TheVariants as candidate
use Rattle.rx_reach.specs.declared.tries.Tried.{Tried}
use Rattle.rx_reach.specs.Candidates.{IsTried, Try, is_other}
use Rattle.rx_reach.specs.Progress.{KeepsKnown, Marks, Takes, TakesSource}
use Rattle.rx_reach.specs.Reach.{IsLeastPath}
use Rattle.rx_reach.specs.Scenes.{AreRight, Scene, Sees}
use Rattle.rx_reach.specs.Sights.{AreKnownAt, IsKnownAt, Notes, seen_at}
use Rattle.rx_reach.proofs.SetLemmas.{all-from}
use Rattle.rx_reach.proofs.SightLemmas.{notes-keep}

abbrev Sights : Type 0
Sights = List (List ℕ × Look)

-- what was looked at stays so
pub known-kept : (old new : Sights) (answers : List Given) (path : List ℕ) → Notes old new answers → IsKnownAt old path → IsKnownAt new path
known-kept old new answers path n k = (k.0, notes-keep old new answers path k.0 n k.1)

pub all-kept : (old new : Sights) (answers : List Given) (paths : List (List ℕ)) → Notes old new answers → AreKnownAt old paths → AreKnownAt new paths
all-kept old new answers paths n h = All-weaker (IsKnownAt old) (IsKnownAt new) (λ path k. known-kept old new answers path n k) paths h

pub known-join : (a b c : Sights) (answers : List Given) (blamed : List ℕ) (p q r : Progress) → Notes a b answers → KeepsKnown a b blamed p q → KeepsKnown b c blamed q r → KeepsKnown a c blamed p r
known-join a b c answers blamed p q r n f g k all = g (known-kept a b answers blamed n k) (f k all)

-- ---- a scene in which nothing is where nothing was looked at

abbrev look_or : Option Look → Look
look_or None = Absent
look_or (Some look) = look

abbrev scene_seen : Sights → Scene
scene_seen sights = record { look = λ path. look_or (seen_at sights path); text = λ path. [] }

right-seen : (sights : Sights) → AreRight (scene_seen sights) sights
right-seen sights path look e = sym (ap look_or e)

other-seen : (sights : Sights) (path : List ℕ) (o : Option Look) → seen_at sights path ≡ o → is_other (look_or o) ≡ true → IsKnownAt sights path
other-seen sights path (Some look) e t = (look, e)
other-seen sights path None e t = absurd (true≢false (sym t))

-- what a try met was looked at
met-known : (sights : Sights) (t : Try) (tried : Tried) (path : List ℕ) → Sees sights (λ scene. IsTried scene t tried) → tried.candidate ≡ candidate.Other path → IsKnownAt sights path
met-known sights t tried path right c =
    let m = ((right (scene_seen sights) (right-seen sights)).meets path).1 c in
    other-seen sights path (seen_at sights path) refl m.other

-- ---- one step

pub taken-known : (sights : Sights) (blamed : List ℕ) (t : Try) (tried : Tried) (p q : Progress) → Sees sights (λ scene. IsTried scene t tried) → Takes blamed tried p q → KeepsKnown sights sights blamed p q
taken-known sights blamed t tried p q right takes k all = all-from (IsKnownAt sights) q.hard (λ path h. by path ((takes.hard path).0 h))
  where
    by : (path : List ℕ) → Contains p.hard path ⊎ (((path ≡ blamed) × (tried.candidate ≡ candidate.Outside)) ⊎ (tried.candidate ≡ candidate.Other path)) → IsKnownAt sights path
    by path (inl a) = All-contains (IsKnownAt sights) p.hard path all a
    by path (inr (inl e)) = subst (IsKnownAt sights) (sym e.0) k
    by path (inr (inr c)) = met-known sights t tried path right c

pub source-known : (sights : Sights) (source : List ℕ) (look : Look) (p q : Progress) → TakesSource source look p q → KeepsKnown sights sights source p q
source-known sights source look p q takes k all = all-from (IsKnownAt sights) q.hard (λ path h. by path ((takes.hard path).0 h))
  where
    by : (path : List ℕ) → Contains p.hard path ⊎ ((path ≡ source) × (is_other look ≡ true)) → IsKnownAt sights path
    by path (inl a) = All-contains (IsKnownAt sights) p.hard path all a
    by path (inr e) = subst (IsKnownAt sights) (sym e.0) k

pub marked-known : (sights : Sights) (path : List ℕ) (hidden : Bool) (p q : Progress) → Marks path hidden p q → KeepsKnown sights sights path p q
marked-known sights path hidden p q marks k all = all-from (IsKnownAt sights) q.hard (λ other h. by other ((marks.hard other).0 h))
  where
    by : (other : List ℕ) → Contains p.hard other ⊎ ((other ≡ path) × (hidden ≡ true)) → IsKnownAt sights other
    by other (inl a) = All-contains (IsKnownAt sights) p.hard other all a
    by other (inr e) = subst (IsKnownAt sights) (sym e.0) k

pub none-known : (sights : Sights) (paths : List (List ℕ)) → paths ≡ [] → AreKnownAt sights paths
none-known sights paths e = subst (AreKnownAt sights) (sym e) (All-nil (IsKnownAt sights))

pub least-known : (sights : Sights) (paths : List (List ℕ)) (least : Option (List ℕ)) → IsLeastPath (Contains paths) least → AreKnownAt sights paths → IfSome least (IsKnownAt sights)
least-known sights paths None h all = tt
least-known sights paths (Some path) h all = All-contains (IsKnownAt sights) paths path all h.0
