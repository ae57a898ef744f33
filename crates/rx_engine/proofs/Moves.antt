-- What is said of a part is said of the parts, and of other parts that have the same one.
use Rattle.std.proofs.Common.{◌≡◌, Bool, List, refl, subst, sym}
use Rattle.std.specs.Prelude.{None, Option, Some}
use Rattle.rx_scan.specs.declared.gathering.Gathered.{Gathered}
use Rattle.rx_scan.specs.Lists.{Listing, Tells}
use Rattle.rx_world.specs.declared.attempts.Cause.{Cause}
use Rattle.rx_world.specs.declared.attempts.End.{End}
use Rattle.rx_exec_messages.specs.declared.callers.Caller as callers
use Rattle.rx_world.specs.declared.benches.Bench as benches
use Rattle.rx_world.specs.declared.benches.BenchMaker as makers
use Rattle.rx_world.specs.declared.decisions.Decision.{Decision}
use Rattle.rx_world.specs.declared.outcomes.Outcome.{Outcome}
use Rattle.rx_world.specs.declared.remote_causes.RemoteCause.{RemoteCause}
use Rattle.rx_world.specs.declared.sources.Given.{Given}
use Rattle.rx_world.specs.declared.sources.Sources as sources
use Rattle.rx_world.specs.declared.streams.Sink as sinks
use Rattle.rx_world.specs.declared.streams.Source as inputs
use Rattle.rx_world.specs.declared.world.World as world
use Rattle.rx_world.specs.Answers.{Gives}
use Rattle.rx_engine.specs.declared.desk.Parts.{Parts}
use Rattle.rx_engine.specs.Attempts.{Attempts, HasAttempts, HasEndedHere, HasLocal, HasRemote, IsIdle, IsIdleHere}
use Rattle.rx_engine.specs.Meanings.{meanings, source_part}
use Rattle.rx_engine.proofs.Mirrors.{IsClient, IsSource, farm-same, idle-mirrored, source-same, there-mirrored}

-- ---- a source tree

pub gives-in : {P T W : Type 0} (w : world.Ghosts W) (s : sources.Ghosts T W) (part : P → T) (a b : P) (xs : List Given) → Gives w s (part a) (part b) xs → Gives w (source_part part s) a b xs
gives-in w s part a b xs h = record { told = h.told; kept = h.kept; by_list = h.by_list; contents = h.contents; holds = h.holds; later = h.later }

pub gives-out : {P T W : Type 0} (w : world.Ghosts W) (s : sources.Ghosts T W) (part : P → T) (a b : P) (xs : List Given) → Gives w (source_part part s) a b xs → Gives w s (part a) (part b) xs
gives-out w s part a b xs h = record { told = h.told; kept = h.kept; by_list = h.by_list; contents = h.contents; holds = h.holds; later = h.later }

pub tells-in : {P T W : Type 0} (w : world.Ghosts W) (s : sources.Ghosts T W) (part : P → T) (a b : P) (xs : List Given) (ls : List Listing) → Tells w s (part a) (part b) xs ls → Tells w (source_part part s) a b xs ls
tells-in w s part a b xs ls h = record { gives = gives-in w s part a b xs h.gives; by_list = h.by_list }

pub tells-out : {P T W : Type 0} (w : world.Ghosts W) (s : sources.Ghosts T W) (part : P → T) (a b : P) (xs : List Given) (ls : List Listing) → Tells w (source_part part s) a b xs ls → Tells w s (part a) (part b) xs ls
tells-out w s part a b xs ls h = record { gives = gives-out w s part a b xs h.gives; by_list = h.by_list }

-- ---- the parts that attempts have

-- the parts of the local attempt are the same
pub record IsSameHere {I O T L M R C : Type 0} (p r : Parts I O T L M R C) : Type 0 where
  pub tree_local : r.tree_local ≡ p.tree_local
  pub benches : r.benches ≡ p.benches

-- those of the remote attempt are
pub record IsSameThere {I O T L M R C : Type 0} (p r : Parts I O T L M R C) : Type 0 where
  pub tree_remote : r.tree_remote ≡ p.tree_remote
  pub farm : r.farm ≡ p.farm

-- those of both
pub record IsSame {I O T L M R C : Type 0} (p r : Parts I O T L M R C) : Type 0 where
  pub here : IsSameHere p r
  pub there : IsSameThere p r

pub same-none : {I O T L M R C : Type 0} (p : Parts I O T L M R C) → IsSame p p
same-none p = record { here = record { tree_local = refl; benches = refl }; there = record { tree_remote = refl; farm = refl } }

four : {A B : Type 0} (F : A → A → B → B → Type 0) (a x b y : A) (c u d v : B) → x ≡ a → y ≡ b → u ≡ c → v ≡ d → F a b c d → F x y u v
four F a x b y c u d v e f g h holds =
    subst (λ s. F s y u v) (sym e) (subst (λ s. F a s u v) (sym f) (subst (λ s. F a b s v) (sym g) (subst (λ s. F a b c s) (sym h) holds)))

module _ {W I O T L M B R C : Type 0} (w : world.Ghosts W) (i : inputs.Ghosts I) (o : sinks.Ghosts O) (t : sources.Ghosts T W) (l : sources.Ghosts L W) (k : makers.Ghosts M W B) (b : benches.Ghosts B W)
    (v : sources.Ghosts R W) (z : callers.Ghosts C W) where
  -- both pairs of states have the same source tree for gathering
  pub tells-move : (p q r s : Parts I O T L M R C) (xs : List Given) (ls : List Listing) → r.tree ≡ p.tree → s.tree ≡ q.tree
      → Tells w (source_part (λ (x : Parts I O T L M R C). x.tree) t) p q xs ls → Tells w (source_part (λ (x : Parts I O T L M R C). x.tree) t) r s xs ls
  tells-move p q r s xs ls e f h =
      tells-in w t (λ (x : Parts I O T L M R C). x.tree) r s xs ls
      (subst (λ x. Tells w t x s.tree xs ls) (sym e) (subst (λ y. Tells w t p.tree y xs ls) (sym f) (tells-out w t (λ (x : Parts I O T L M R C). x.tree) p q xs ls h)))

  -- ---- the local attempt

  idle-here_same : (p q r s : Parts I O T L M R C) → IsIdleHere (meanings w i o t l k b v z) p q
      → IsIdleHere (meanings w i o t l k b v z) (record r { tree_local = p.tree_local; benches = p.benches }) (record s { tree_local = q.tree_local; benches = q.benches })
  idle-here_same p q r s h = record {
    unread = gives-in w l (λ (x : Parts I O T L M R C). x.tree_local) _ _ _ (gives-out w l (λ (x : Parts I O T L M R C). x.tree_local) p q _ h.unread);
    source_is = h.source_is;
    bench_is = h.bench_is;
    returned_is = h.returned_is;
  }

  ended-here_same : (p q r s : Parts I O T L M R C) (gathered : Gathered) (told : Option Decision) (end : End Outcome Cause) → HasEndedHere (meanings w i o t l k b v z) gathered told p q end
      → HasEndedHere (meanings w i o t l k b v z) gathered told (record r { tree_local = p.tree_local; benches = p.benches }) (record s { tree_local = q.tree_local; benches = q.benches }) end
  ended-here_same p q r s gathered told end h =
      let a = h.attempted in
      record {
        attempted = record {
          made = a.made;
          returned = a.returned;
          failed = a.failed;
          on = record {
            answers = a.on.answers;
            gives = gives-in w l (λ (x : Parts I O T L M R C). x.tree_local) _ _ _ (gives-out w l (λ (x : Parts I O T L M R C). x.tree_local) p q _ a.on.gives);
            ended = a.on.ended;
          };
          later = a.later;
          counted = a.counted;
          untouched = a.untouched;
        };
        proper = h.proper;
        within = h.within;
        stopped = h.stopped;
        from = h.from;
      }

  module _ (p q r s : Parts I O T L M R C) where
    idle-here-move : IsSameHere p r → IsSameHere q s → IsIdleHere (meanings w i o t l k b v z) p q → IsIdleHere (meanings w i o t l k b v z) r s
    idle-here-move e f h =
        four (λ x u y d. IsIdleHere (meanings w i o t l k b v z) (record r { tree_local = x; benches = y }) (record s { tree_local = u; benches = d }))
        p.tree_local r.tree_local q.tree_local s.tree_local p.benches r.benches q.benches s.benches e.tree_local f.tree_local e.benches f.benches (idle-here_same p q r s h)

    ended-here-move : (gathered : Gathered) (told : Option Decision) (end : End Outcome Cause) → IsSameHere p r → IsSameHere q s
        → HasEndedHere (meanings w i o t l k b v z) gathered told p q end → HasEndedHere (meanings w i o t l k b v z) gathered told r s end
    ended-here-move gathered told end e f h =
        four (λ x u y d. HasEndedHere (meanings w i o t l k b v z) gathered told (record r { tree_local = x; benches = y }) (record s { tree_local = u; benches = d }) end)
        p.tree_local r.tree_local q.tree_local s.tree_local p.benches r.benches q.benches s.benches e.tree_local f.tree_local e.benches f.benches (ended-here_same p q r s gathered told end h)

    pub local-move : (gathered : Gathered) (told : Option Decision) (end : Option (End Outcome Cause)) → IsSameHere p r → IsSameHere q s
        → HasLocal (meanings w i o t l k b v z) gathered told p q end → HasLocal (meanings w i o t l k b v z) gathered told r s end
    local-move gathered told None e f h = idle-here-move e f h
    local-move gathered told (Some end) e f h = ended-here-move gathered told end e f h

    -- ---- the remote attempt

    farm-move : (x y : Parts I O T L M R C) → IsSameThere x y → IsClient (meanings w i o t l k b v z).farm (meanings w i o t l k b v z).farm x y
    farm-move x y e = farm-same z (λ (a : Parts I O T L M R C). a.farm) x y e.farm

    tree-move : (x y : Parts I O T L M R C) → IsSameThere x y → IsSource (meanings w i o t l k b v z).tree_remote (meanings w i o t l k b v z).tree_remote x y
    tree-move x y e = source-same v (λ (a : Parts I O T L M R C). a.tree_remote) x y e.tree_remote

    pub remote-move : (gathered : Gathered) (accepts : Bool) (told : Option Decision) (end : Option (End Outcome RemoteCause)) → IsSameThere p r → IsSameThere q s
        → HasRemote (meanings w i o t l k b v z) gathered accepts told p q end → HasRemote (meanings w i o t l k b v z) gathered accepts told r s end
    remote-move gathered accepts told None e f h = idle-mirrored w _ _ _ _ p q r s p q r s (farm-move p r e) (farm-move q s f) (tree-move p r e) (tree-move q s f) h
    remote-move gathered accepts told (Some end) e f h =
        there-mirrored w _ _ _ _ p q r s p q r s (farm-move p r e) (farm-move q s f) (tree-move p r e) (tree-move q s f) gathered accepts told end h

    -- ---- both

    pub idle-move : IsSame p r → IsSame q s → IsIdle (meanings w i o t l k b v z) p q → IsIdle (meanings w i o t l k b v z) r s
    idle-move e f h = record {
      here = idle-here-move e.here f.here h.here;
      there = idle-mirrored w _ _ _ _ p q r s p q r s (farm-move p r e.there) (farm-move q s f.there) (tree-move p r e.there) (tree-move q s f.there) h.there;
    }

    pub attempts-move : (gathered : Gathered) (accepts : Bool) (attempts : Attempts) → IsSame p r → IsSame q s
        → HasAttempts (meanings w i o t l k b v z) gathered accepts p q attempts → HasAttempts (meanings w i o t l k b v z) gathered accepts r s attempts
    attempts-move gathered accepts attempts e f h = record {
      local = local-move gathered attempts.told_local attempts.local e.here f.here h.local;
      remote = remote-move gathered accepts attempts.told_remote attempts.remote e.there f.there h.remote;
      in_turn = h.in_turn;
      raced = h.raced;
    }
