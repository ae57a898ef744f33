-- Stretches of a scan, one after the other.
use Rattle.std.proofs.Common.{◌≡◌, ℕ, List, [], ◌∷◌, ◌++◌}
use Rattle.std.proofs.lemmas.List.Elements.{All-cons, All-head, All-nil, All-tail}
use Rattle.std.specs.Prelude.{All, Err, IfOk, Ok, Result, Some}
use Rattle.rx_world.specs.declared.looks.Look.{Look}
use Rattle.rx_world.specs.declared.sources.Given.{Given}
use Rattle.rx_world.specs.declared.sources.Sources as sources
use Rattle.rx_world.specs.declared.world.World as world
use Rattle.rx_world.proofs.AnswerLemmas.{gives-join, gives-none}
use Rattle.rx_reach.specs.declared.faults.SightFault.{SightFault}
use Rattle.rx_reach.specs.declared.faults.SightFault.TheVariants.{NoMemory}
use Rattle.rx_reach.specs.Scans.{Ends, Scans}
use Rattle.rx_reach.specs.Scenes.{Always, IsRight, Scene, Sees}
use Rattle.rx_reach.specs.Sights.{Notes, seen_at}
use Rattle.rx_reach.proofs.SightLemmas.{blames-later, notes-join, notes-keep, notes-none, right-noted}

abbrev Sights : Type 0
Sights = List (List ℕ × Look)

All-left : (P : Given → Type 0) (xs ys : List Given) → All P (xs ++ ys) → All P xs
All-left P [] ys h = All-nil P
All-left P (x ∷ xs) ys h = All-cons P x xs (All-head P x (xs ++ ys) h) (All-left P xs ys (All-tail P x (xs ++ ys) h))

All-right : (P : Given → Type 0) (xs ys : List Given) → All P (xs ++ ys) → All P ys
All-right P [] ys h = h
All-right P (x ∷ xs) ys h = All-right P xs ys (All-tail P x (xs ++ ys) h)

-- nothing was asked
pub scans-none : {T W : Type 0} (w : world.Ghosts W) (s : sources.Ghosts T W) (a : T) (old : Sights) (P : Scene → Type 0)
    → Sees old P → Scans w s a a old old P
scans-none w s a old P h = record { answers = []; gives = gives-none w s a; notes = notes-none old; known = λ scene r _. h scene r }

-- two stretches
pub scans-join : {T W : Type 0} (w : world.Ghosts W) (s : sources.Ghosts T W) (a b c : T) (old mid new : Sights) (P Q R : Scene → Type 0)
    → Scans w s a b old mid P → Scans w s b c mid new Q → ((scene : Scene) → P scene → Q scene → R scene)
    → Scans w s a c old new R
scans-join w s a b c old mid new P Q R p q h = record {
  answers = p.answers ++ q.answers;
  gives = gives-join w s a b c p.answers q.answers p.gives q.gives;
  notes = notes-join old mid new p.answers q.answers p.notes q.notes;
  known = λ scene r all.
      let first = All-left (IsRight scene) p.answers q.answers all in
      h scene (p.known scene r first) (q.known scene (right-noted scene old mid p.answers p.notes r first) (All-right (IsRight scene) p.answers q.answers all));
}

-- what is known of it says this too
pub scans-say : {T W : Type 0} (w : world.Ghosts W) (s : sources.Ghosts T W) (a b : T) (old new : Sights) (P Q : Scene → Type 0)
    → Scans w s a b old new P → ((scene : Scene) → P scene → Q scene) → Scans w s a b old new Q
scans-say w s a b old new P Q p h = record { answers = p.answers; gives = p.gives; notes = p.notes; known = λ scene r all. h scene (p.known scene r all) }

-- two stretches of which nothing more is said
pub scans-on : {T W : Type 0} (w : world.Ghosts W) (s : sources.Ghosts T W) (a b c : T) (old mid new : Sights) (P Q : Scene → Type 0)
    → Scans w s a b old mid P → Scans w s b c mid new Q → Scans w s a c old new Always
scans-on w s a b c old mid new P Q p q = scans-join w s a b c old mid new P Q Always p q (λ scene _ _. tt)

-- a stretch, and then a fault
pub ends-join : {T W : Type 0} (w : world.Ghosts W) (s : sources.Ghosts T W) (a b c : T) (old mid : Sights) (P : Scene → Type 0) (fault : SightFault)
    → Scans w s a b old mid P → Ends w s b c mid fault → Ends w s a c old fault
ends-join w s a b c old mid P fault p e = record {
  answers = p.answers ++ e.answers;
  gives = gives-join w s a b c p.answers e.answers p.gives e.gives;
  blames = blames-later old mid p.answers e.answers (s.faults a) (s.faults b) (s.faults c) fault p.notes p.gives.later e.blames;
}

-- a stretch, and then want of memory
pub ends-memory : {T W : Type 0} (w : world.Ghosts W) (s : sources.Ghosts T W) (a b : T) (old new : Sights) (P : Scene → Type 0)
    → Scans w s a b old new P → Ends w s a b old NoMemory
ends-memory w s a b old new P p = record { answers = p.answers; gives = p.gives; blames = tt }

-- want of memory at once
pub ends-at-once : {T W : Type 0} (w : world.Ghosts W) (s : sources.Ghosts T W) (a : T) (old : Sights)
    → Ends w s a a old NoMemory
ends-at-once w s a old = record { answers = []; gives = gives-none w s a; blames = tt }

-- ---- what was seen

-- what is known by what was seen is known by what was seen later
pub sees-later : (old new : Sights) (answers : List Given) (P : Scene → Type 0) → Notes old new answers → Sees old P → Sees new P
sees-later old new answers P n h scene r = h scene (λ path look e. r path look (notes-keep old new answers path look n e))

-- what is known by what is seen after a stretch is known by the stretch
pub scans-sees : {T W : Type 0} (w : world.Ghosts W) (s : sources.Ghosts T W) (a b : T) (old new : Sights) (P Q : Scene → Type 0)
    → Scans w s a b old new P → Sees new Q → Scans w s a b old new Q
scans-sees w s a b old new P Q p q = record { answers = p.answers; gives = p.gives; notes = p.notes; known = λ scene r all. q scene (right-noted scene old new p.answers p.notes r all) }

-- a look that was seen is what the scene has
pub sees-look : (sights : Sights) (path : List ℕ) (look : Look) → seen_at sights path ≡ Some look → Sees sights (λ scene. look ≡ scene.look path)
sees-look sights path look e scene r = r path look e

-- what a call's stretch says, it says in other words
pub ok-says : {T W R : Type 0} (w : world.Ghosts W) (s : sources.Ghosts T W) (a b : T) (old new : Sights) (result : Result R SightFault) (P Q : R → Scene → Type 0)
    → ((x : R) (scene : Scene) → P x scene → Q x scene) → IfOk result (λ x. Scans w s a b old new (P x)) → IfOk result (λ x. Scans w s a b old new (Q x))
ok-says w s a b old new (Ok x) P Q says h = scans-say w s a b old new (P x) (Q x) h (says x)
ok-says w s a b old new (Err fault) P Q says h = tt

-- what follows from the look that a call answered is seen
pub ok-sees-look : (sights : Sights) (path : List ℕ) (result : Result Look SightFault) (P : Look → Scene → Type 0)
    → ((look : Look) (scene : Scene) → look ≡ scene.look path → P look scene) → IfOk result (λ look. seen_at sights path ≡ Some look) → IfOk result (λ look. Sees sights (P look))
ok-sees-look sights path (Ok look) P says h = λ scene r. says look scene (r path look h)
ok-sees-look sights path (Err fault) P says h = tt

-- the same of what a call saw
pub ok-sees : {R : Type 0} (sights : Sights) (result : Result R SightFault) (P Q : R → Scene → Type 0) → ((x : R) (scene : Scene) → P x scene → Q x scene) → IfOk result (λ x. Sees sights (P x)) → IfOk result (λ x. Sees sights (Q x))
ok-sees sights (Ok x) P Q says h = λ scene r. says x scene (h scene r)
ok-sees sights (Err fault) P Q says h = tt
