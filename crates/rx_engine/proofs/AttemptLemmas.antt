-- From the ends of the attempts to the attempts of a plan.
use Rattle.std.proofs.Common.{◌≡◌, ◌≤◌, Bool, List, [], ◌++◌, ap, arith, inl, inr, refl, subst, sym}
use Rattle.std.specs.Prelude.{All, Err, IfOk, IfSome, None, Ok, Option, Result, Some}
use Rattle.rx_action.specs.OutputPaths.{AreBelow}
use Rattle.rx_base.specs.Digests.{digest_of}
use Rattle.rx_base.specs.declared.digests.Digest.{Digest}
use Rattle.rx_base.proofs.Members.{Contains-from_map}
use Rattle.rx_base.proofs.PathsSorted.{AreSorted-sorted_paths}
use Rattle.rx_exec_messages.specs.declared.callers.Caller as callers
use Rattle.rx_exec_messages.specs.Calls.{Stays}
use Rattle.rx_local.proofs.Ends.{forgets}
use Rattle.rx_local.specs.Limits.{IsWithinLimits}
use Rattle.rx_local.specs.Local.{HasAttempted, HasTold}
use Rattle.rx_race.specs.declared.slips.Slip.{Slip}
use Rattle.rx_race.specs.Locked.{AreTold, slips_of}
use Rattle.rx_race.specs.Slips.{Ticket}
use Rattle.rx_remote.specs.Actions.{AreNamed}
use Rattle.rx_scan.specs.declared.gathering.Gathered.{Gathered}
use Rattle.rx_scan.specs.Gathering.{IsOrderly, reading_asked}
use Rattle.rx_scan.specs.Words.{outputs_for}
use Rattle.rx_session.specs.declared.requests.Request.{Request}
use Rattle.rx_tree.specs.declared.blobs.Blob.{Blob as Directory}
use Rattle.rx_tree.specs.Blobs.{blob_of}
use Rattle.rx_tree.proofs.FitLemmas.{can_be_built}
use Rattle.rx_world.specs.declared.attempts.Cause.{Cause}
use Rattle.rx_world.specs.declared.attempts.Cause.TheVariants as causes
use Rattle.rx_world.specs.declared.attempts.End.{End}
use Rattle.rx_world.specs.declared.attempts.End.TheVariants as ends
use Rattle.rx_world.specs.declared.attempts.Origin.{Origin}
use Rattle.rx_world.specs.declared.attempts.Plan.{Plan}
use Rattle.rx_world.specs.declared.benches.Bench as benches
use Rattle.rx_world.specs.declared.benches.BenchMaker as makers
use Rattle.rx_world.specs.declared.commands.Command.{Command}
use Rattle.rx_world.specs.declared.decisions.Decision.{Decision}
use Rattle.rx_world.specs.declared.input_files.InputFile.{InputFile}
use Rattle.rx_world.specs.declared.outcomes.Outcome.{Outcome}
use Rattle.rx_world.specs.declared.remote_causes.RemoteCause.{RemoteCause}
use Rattle.rx_world.specs.declared.remote_causes.RemoteCause.TheVariants as remote_causes
use Rattle.rx_world.specs.declared.sources.SourceEntry.{SourceEntry}
use Rattle.rx_world.specs.declared.sources.Sources as sources
use Rattle.rx_world.specs.declared.streams.Sink as sinks
use Rattle.rx_world.specs.declared.streams.Source as inputs
use Rattle.rx_world.specs.declared.world.World as world
use Rattle.rx_world.proofs.AnswerLemmas.{gives-none}
use Rattle.rx_world.specs.Inputs.{IsAsListed}
use Rattle.rx_world.specs.Outcomes.{IsProper}
use Rattle.rx_engine.specs.declared.desk.Parts.{Parts}
use Rattle.rx_engine.specs.declared.held.Held.{Held}
use Rattle.rx_engine.specs.Answers.{HasOutputsBelow, asked_of}
use Rattle.rx_engine.specs.declared.transcripts.Passes.{Passes}
use Rattle.rx_engine.specs.Attempts.{AreLaterThan, Attempts, HasAttempts, HasEndedHere, HasLocal, HasRemote, HasRunHere, Holds, IsIdle, IsIdleHere, end_of, job_of, whole_end}
use Rattle.rx_engine.specs.Meanings.{Meanings, meanings}
use Rattle.rx_engine.specs.RacedAttempts.{HasRaced, HasRacedHere, HasRacedThere, RanHere, RanThere}
use Rattle.rx_engine.specs.Plans.{has_remote, is_due_here}
use Rattle.rx_engine.specs.Racing.{HaveRaced}
use Rattle.rx_engine.specs.RemoteAttempts.{EndsThere, FitsFarm, HasRunThere, IsIdleThere, IsTreeOf}
use Rattle.rx_engine.proofs.Cases.{as-remote}
use Rattle.rx_engine.proofs.Mirrors.{farm-in, source-in, there-mirrored}
use Rattle.rx_engine.proofs.Moves.{IsSame, gives-in, local-move, remote-move}

unchanged-none : (told : Option (List SourceEntry)) (files : List InputFile) → IfSome told (λ entries. All (IsAsListed entries) files → Unit {0})
unchanged-none None files = tt
unchanged-none (Some entries) files = λ h. tt

-- ---- the local attempt

module _ {M B T W : Type 0} (w : world.Ghosts W) (m : makers.Ghosts M W B) (b : benches.Ghosts B W) (s : sources.Ghosts T W) (gathered : Gathered) (told : Option Decision) (benches_old benches_new : M) (old new : T) where
  has-run : (result : Result Outcome Cause) → HasAttempted w m b s (job_of gathered) benches_old benches_new old new result
      → IfOk result (IsProper gathered.command) → IfOk result IsWithinLimits → HasTold None told result
      → HasRunHere w m b s gathered told benches_old benches_new old new (end_of result)
  has-run (Ok outcome) a proper within stopped = record { attempted = a; proper = proper; within = within; stopped = stopped; from = refl }
  has-run (Err cause) a proper within stopped = record { attempted = a; proper = tt; within = tt; stopped = stopped; from = tt }

  -- an attempt on what was gathered, whose outcome is held where there is memory for it
  pub run-held : (result : Result Outcome Cause) (held : End Held Cause) → HasAttempted w m b s (job_of gathered) benches_old benches_new old new result
      → IfOk result (IsProper gathered.command) → IfOk result IsWithinLimits → HasTold None told result
      → Holds causes.NoMemory (end_of result) held → HasRunHere w m b s gathered told benches_old benches_new old new (whole_end held)
  run-held (Ok outcome) held a proper within stopped (inl e) =
      subst (HasRunHere w m b s gathered told benches_old benches_new old new) (sym e) (has-run (Ok outcome) a proper within stopped)
  run-held (Ok outcome) held a proper within stopped (inr e) =
      subst (HasRunHere w m b s gathered told benches_old benches_new old new) (sym e)
      (has-run (Err causes.NoMemory) (forgets w m b s (job_of gathered) benches_old benches_new old new outcome a) tt tt stopped)
  run-held (Err cause) held a proper within stopped e =
      subst (HasRunHere w m b s gathered told benches_old benches_new old new) (sym e) (has-run (Err cause) a proper within stopped)

-- ---- what a remote attempt is about

-- what was gathered for a request fits a farm
pub fits-farm : (request : Request) (gathered : Gathered) → IsOrderly (asked_of request) gathered → HasOutputsBelow request → FitsFarm gathered
fits-farm request gathered h below =
    let asked = asked_of request in
    record {
      tree = can_be_built gathered.files gathered.dirs h.few h.sorted h.apart h.clear;
      sorted = rw h.command_is (AreSorted-sorted_paths (asked.command.outputs ++ outputs_for (reading_asked asked)));
      below = subst (λ directory. AreBelow directory gathered.command.outputs) (ap (λ (x : Command). x.working_directory) (sym h.command_is)) (h.outputs_below below);
    }

-- each Directory has the digest of its bytes
pub named : (gathered : Gathered) (root : Digest) (directories : List Directory) → IsTreeOf gathered root directories → AreNamed directories
named gathered root directories h = λ directory there.
    let from = Contains-from_map blob_of _ directory ((h.directories_are directory).1 there) in
    subst (λ (x : Directory). digest_of x.bytes ≡ x.digest) from.2 refl

memory-done : (outcome : Outcome) (origin : Origin) → as-remote (ends.Failed remote_causes.NoMemory) ≡ ends.Done outcome origin → ⊥
memory-done outcome origin e = cc e

-- an outcome that isn't kept
forgets-there : {C T W : Type 0} (w : world.Ghosts W) (c : callers.Ghosts C W) (s : sources.Ghosts T W) (gathered : Gathered) (accepts : Bool) (told : Option Decision) (farm_old farm_new : C) (old new : T)
    (outcome : Outcome) (origin : Origin) → HasRunThere w c s gathered accepts told farm_old farm_new old new (ends.Done outcome origin)
    → HasRunThere w c s gathered accepts told farm_old farm_new old new (ends.Failed remote_causes.NoMemory)
forgets-there w c s gathered accepts told farm_old farm_new old new outcome origin h = record {
  root = h.root;
  directories = h.directories;
  tree = h.tree;
  ended = inl refl;
  right = λ tree g v. record { fine = tt; clean = λ outcome origin e. absurd (memory-done outcome origin e) };
  sound = λ outcome origin e. absurd (memory-done outcome origin e);
  stays = h.stays;
  own = record { answers = h.own.answers; gives = h.own.gives; reads = h.own.reads; is_such = tt };
  stopped = h.stopped;
  unchanged = λ k. unchanged-none (s.listed old) gathered.files;
}

-- an end that is held, or want of memory
pub there-held : {C T W : Type 0} (w : world.Ghosts W) (c : callers.Ghosts C W) (s : sources.Ghosts T W) (gathered : Gathered) (accepts : Bool) (told : Option Decision) (farm_old farm_new : C) (old new : T)
    (end : End Outcome RemoteCause) (held : End Held RemoteCause) → HasRunThere w c s gathered accepts told farm_old farm_new old new end → Holds remote_causes.NoMemory end held
    → HasRunThere w c s gathered accepts told farm_old farm_new old new (whole_end held)
there-held w c s gathered accepts told farm_old farm_new old new (ends.Done outcome origin) held h (inl e) =
    subst (HasRunThere w c s gathered accepts told farm_old farm_new old new) (sym e) h
there-held w c s gathered accepts told farm_old farm_new old new (ends.Done outcome origin) held h (inr e) =
    subst (HasRunThere w c s gathered accepts told farm_old farm_new old new) (sym e) (forgets-there w c s gathered accepts told farm_old farm_new old new outcome origin h)
there-held w c s gathered accepts told farm_old farm_new old new (ends.Failed cause) held h e =
    subst (HasRunThere w c s gathered accepts told farm_old farm_new old new) (sym e) h

-- ---- both attempts, over the parts

stays-none : {C W : Type 0} (c : callers.Ghosts C W) (x : C) → Stays c.vouches c.genuine c.dialect x x
stays-none c x = record { triples = λ digest command outcome h. h; still_genuine = λ h. h; same_dialect = refl }

-- nothing was asked of a farm, and nothing read for it
pub idle-there-none : {C T W : Type 0} (w : world.Ghosts W) (c : callers.Ghosts C W) (s : sources.Ghosts T W) (client : C) (tree : T) → IsIdleThere w c s client client tree tree
idle-there-none w c s client tree = record {
  unasked = record { conversation_is = refl; stays = stays-none c client; faults_are = refl };
  unread = gives-none w s tree;
  source_is = refl;
}

module _ {W I O T L M B R C : Type 0} (w : world.Ghosts W) (i : inputs.Ghosts I) (o : sinks.Ghosts O) (t : sources.Ghosts T W) (l : sources.Ghosts L W) (k : makers.Ghosts M W B) (b : benches.Ghosts B W)
    (v : sources.Ghosts R W) (z : callers.Ghosts C W) where
  -- no local attempt was made
  pub idle-here-none : (p : Parts I O T L M R C) → IsIdleHere (meanings w i o t l k b v z) p p
  idle-here-none p = record {
    unread = gives-in w l (λ (x : Parts I O T L M R C). x.tree_local) p p [] (gives-none w l p.tree_local);
    source_is = refl;
    bench_is = refl;
    returned_is = refl;
  }

  -- nothing was done yet
  pub idle-none : (p : Parts I O T L M R C) → IsIdle (meanings w i o t l k b v z) p p
  idle-none p = record {
    here = idle-here-none p;
    there = idle-there-none w (meanings w i o t l k b v z).farm (meanings w i o t l k b v z).tree_remote p p;
  }

  -- the local attempt was made by its parts
  pub here-in : (p q : Parts I O T L M R C) (gathered : Gathered) (told : Option Decision) (end : End Outcome Cause) → HasRunHere w k b l gathered told p.benches q.benches p.tree_local q.tree_local end
      → HasEndedHere (meanings w i o t l k b v z) gathered told p q end
  here-in p q gathered told end h =
      let a = h.attempted in
      record {
        attempted = record {
          made = a.made;
          returned = a.returned;
          failed = a.failed;
          on = record {
            answers = a.on.answers;
            gives = gives-in w l (λ (x : Parts I O T L M R C). x.tree_local) p q a.on.answers a.on.gives;
            ended = a.on.ended;
          };
          later = a.later;
          counted = a.counted;
          untouched = a.untouched;
        };
        proper = h.proper;
        within = h.within;
        stopped = h.stopped;
        from = h.from;
      }

  -- and so was the remote one
  pub there-in : (p q : Parts I O T L M R C) (gathered : Gathered) (accepts : Bool) (told : Option Decision) (end : End Outcome RemoteCause) → EndsThere w z v gathered accepts told p.farm q.farm p.tree_remote q.tree_remote end
      → HasRemote (meanings w i o t l k b v z) gathered accepts told p q (Some end)
  there-in p q gathered accepts told end h =
      there-mirrored w z _ v _ p.farm q.farm p q p.tree_remote q.tree_remote p q
      (farm-in z (λ (x : Parts I O T L M R C). x.farm) p) (farm-in z (λ (x : Parts I O T L M R C). x.farm) q)
      (source-in v (λ (x : Parts I O T L M R C). x.tree_remote) p) (source-in v (λ (x : Parts I O T L M R C). x.tree_remote) q)
      gathered accepts told end h

  -- ---- a race

  -- the local attempt was made or refused
  raced-here : (p q : Parts I O T L M R C) (gathered : Gathered) (told : Option Decision) (end : Option (End Outcome Cause)) → RanHere w k b l gathered told p.benches q.benches p.tree_local q.tree_local end
      → HasLocal (meanings w i o t l k b v z) gathered told p q end
  raced-here p q gathered told None h =
      local-move w i o t l k b v z p p p q gathered told None (record { tree_local = refl; benches = refl }) (record { tree_local = h.1; benches = h.0 }) (idle-here-none p)
  raced-here p q gathered told (Some end) h = here-in p q gathered told end h

  -- and so was the remote one
  raced-there : (p q : Parts I O T L M R C) (gathered : Gathered) (accepts : Bool) (told : Option Decision) (end : Option (End Outcome RemoteCause))
      → RanThere w z v gathered accepts told p.farm q.farm p.tree_remote q.tree_remote end → HasRemote (meanings w i o t l k b v z) gathered accepts told p q end
  raced-there p q gathered accepts told None h =
      remote-move w i o t l k b v z p p p q gathered accepts told None (record { tree_remote = refl; farm = refl }) (record { tree_remote = h.1; farm = h.0 })
      (idle-there-none w (meanings w i o t l k b v z).farm (meanings w i o t l k b v z).tree_remote p p)
  raced-there p q gathered accepts told (Some end) h = there-in p q gathered accepts told end h

  pub all-raced : (p q : Parts I O T L M R C) (gathered : Gathered) (accepts : Bool) (plan : Plan) (here : Option (End Outcome Cause)) (there : Option (End Outcome RemoteCause)) (near far : Ticket) (cancel : Slip) (passes : Passes)
      → gathered.plan ≡ plan
      → HasRacedHere w k b l plan (is_due_here plan far.slip) gathered p.benches q.benches p.tree_local q.tree_local here near
      → HasRacedThere w z v plan (has_remote plan) gathered accepts p.farm q.farm p.tree_remote q.tree_remote there far
      → AreTold plan (slips_of near.slip far.slip cancel) → passes ≡ record { local = near.slip; remote = far.slip; cancel = cancel }
      → HasRaced (meanings w i o t l k b v z) gathered accepts p q here there passes
  all-raced p q gathered accepts plan here there near far cancel passes e h g told is = record {
    told_local = h.told;
    told_remote = g.told;
    here = raced-here p q gathered h.told here h.ran;
    there = raced-there p q gathered accepts g.told there g.ran;
    raced = subst (λ x. HaveRaced x h.told here g.told there passes) (sym e) (subst (λ x. HaveRaced plan h.told here g.told there x) (sym is) (record {
      told = told;
      fits_local = h.fits;
      fits_remote = g.fits;
    }));
  }

-- ---- counts

module _ {P W B : Type 0} (m : Meanings P W B) (before after : P) where
  here-later : (gathered : Gathered) (told : Option Decision) (end : Option (End Outcome Cause)) → HasLocal m gathered told before after end
      → (m.tree_local.faults before ≤ m.tree_local.faults after) × (m.benches.faults before ≤ m.benches.faults after)
  here-later gathered told None h = let s = h.source_is in let n = h.bench_is in (omega arith, omega arith)
  here-later gathered told (Some end) h = (h.attempted.on.gives.later, h.attempted.later)

  there-later : (gathered : Gathered) (accepts : Bool) (told : Option Decision) (end : Option (End Outcome RemoteCause)) → HasRemote m gathered accepts told before after end
      → (m.tree_remote.faults before ≤ m.tree_remote.faults after) × (m.farm.faults before ≤ m.farm.faults after)
  there-later gathered accepts told None h = let s = h.source_is in let n = h.unasked.faults_are in (omega arith, omega arith)
  there-later gathered accepts told (Some end) (inl h) = let s = h.2.source_is in let n = h.2.unasked.faults_are in (omega arith, omega arith)
  there-later gathered accepts told (Some end) (inr h) = (h.own.gives.later, h.stays.exchanged.later)

  -- no count falls in attempts
  pub attempts-later : (gathered : Gathered) (accepts : Bool) (attempts : Attempts) → HasAttempts m gathered accepts before after attempts → AreLaterThan m before after
  attempts-later gathered accepts attempts h =
      let here = here-later gathered attempts.told_local attempts.local h.local in
      let there = there-later gathered accepts attempts.told_remote attempts.remote h.remote in
      record { tree_local = here.0; benches = here.1; tree_remote = there.0; farm = there.1 }

module _ {W I O T L M B R C : Type 0} (w : world.Ghosts W) (i : inputs.Ghosts I) (o : sinks.Ghosts O) (t : sources.Ghosts T W) (l : sources.Ghosts L W) (k : makers.Ghosts M W B) (b : benches.Ghosts B W)
    (v : sources.Ghosts R W) (z : callers.Ghosts C W) where
  -- so it is from a state with the same parts on
  pub later-same : (p q r : Parts I O T L M R C) → IsSame p q → AreLaterThan (meanings w i o t l k b v z) q r → AreLaterThan (meanings w i o t l k b v z) p r
  later-same p q r same h = record {
    tree_local = subst (λ x. l.faults x ≤ l.faults r.tree_local) same.here.tree_local h.tree_local;
    benches = subst (λ x. k.faults x ≤ k.faults r.benches) same.here.benches h.benches;
    tree_remote = subst (λ x. v.faults x ≤ v.faults r.tree_remote) same.there.tree_remote h.tree_remote;
    farm = subst (λ x. z.faults x ≤ z.faults r.farm) same.there.farm h.farm;
  }

  pub later-none : (p : Parts I O T L M R C) → AreLaterThan (meanings w i o t l k b v z) p p
  later-none p = record { tree_local = omega arith; benches = omega arith; tree_remote = omega arith; farm = omega arith }
