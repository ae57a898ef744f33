-- What is said of a source tree and of a farm's client is said of any object that tells the same.
use Rattle.std.proofs.Common.{◌≡◌, ◌∙◌, Bool, List, ap, inl, inr, refl, subst, sym}
use Rattle.std.specs.Prelude.{Option}
use Rattle.rx_base.specs.declared.digests.Digest.{Digest}
use Rattle.rx_exec_messages.specs.declared.callers.Caller as callers
use Rattle.rx_exec_messages.specs.declared.exchanges.Exchange.{Exchange}
use Rattle.rx_exec_messages.specs.Calls.{Stays}
use Rattle.rx_exec_messages.specs.Exchanged.{HasExchanged}
use Rattle.rx_remote.specs.Actions.{Work}
use Rattle.rx_remote.specs.Reading.{HasRead}
use Rattle.rx_remote.specs.Runs.{EndsOr, IsRightFor, key_under}
use Rattle.rx_scan.specs.declared.gathering.Gathered.{Gathered}
use Rattle.rx_world.specs.declared.attempts.End.{End}
use Rattle.rx_world.specs.declared.commands.Command.{Command}
use Rattle.rx_world.specs.declared.decisions.Decision.{Decision}
use Rattle.rx_world.specs.declared.input_files.InputFile.{InputFile}
use Rattle.rx_world.specs.declared.outcomes.Outcome.{Outcome}
use Rattle.rx_world.specs.declared.remote_causes.RemoteCause.{RemoteCause}
use Rattle.rx_world.specs.declared.sources.Given.{Given}
use Rattle.rx_world.specs.declared.sources.Sources as sources
use Rattle.rx_world.specs.declared.versions.Dialect.{Dialect}
use Rattle.rx_world.specs.declared.world.World as world
use Rattle.rx_world.specs.Answers.{Gives}
use Rattle.rx_engine.specs.Meanings.{farm_part, source_part}
use Rattle.rx_engine.specs.RemoteAttempts.{EndsThere, HasRunThere, IsIdleThere, IsUnasked, work_on}

-- ---- objects that tell the same

-- two source trees in states in which they tell the same
pub record IsSource {S T W : Type 0} (s : sources.Ghosts S W) (t : sources.Ghosts T W) (x : S) (y : T) : Type 0 where
  pub listed : t.listed y ≡ s.listed x
  pub given : t.given y ≡ s.given x
  pub faults : t.faults y ≡ s.faults x
  pub keeps : s.keeps x → t.keeps y
  pub kept : t.keeps y → s.keeps x

-- two clients in such states
pub record IsClient {C D W : Type 0} (c : callers.Ghosts C W) (d : callers.Ghosts D W) (x : C) (y : D) : Type 0 where
  pub conversation : d.conversation y ≡ c.conversation x
  pub dialect : d.dialect y ≡ c.dialect x
  pub faults : d.faults y ≡ c.faults x
  pub vouches : (digest : Digest) (command : Command) (outcome : Outcome) → c.vouches x digest command outcome → d.vouches y digest command outcome
  pub vouched : (digest : Digest) (command : Command) (outcome : Outcome) → d.vouches y digest command outcome → c.vouches x digest command outcome
  pub genuine : c.genuine x → d.genuine y
  pub was_genuine : d.genuine y → c.genuine x

-- a part, seen through the whole
pub source-in : {P T W : Type 0} (s : sources.Ghosts T W) (part : P → T) (p : P) → IsSource s (source_part part s) (part p) p
source-in s part p = record { listed = refl; given = refl; faults = refl; keeps = λ k. k; kept = λ k. k }

pub farm-in : {P C W : Type 0} (c : callers.Ghosts C W) (part : P → C) (p : P) → IsClient c (farm_part part c) (part p) p
farm-in c part p = record {
  conversation = refl;
  dialect = refl;
  faults = refl;
  vouches = λ digest command outcome h. h;
  vouched = λ digest command outcome h. h;
  genuine = λ h. h;
  was_genuine = λ h. h;
}

-- wholes that have the same part
pub source-same : {P T W : Type 0} (s : sources.Ghosts T W) (part : P → T) (p q : P) → part q ≡ part p → IsSource (source_part part s) (source_part part s) p q
source-same s part p q e = record {
  listed = ap s.listed e;
  given = ap s.given e;
  faults = ap s.faults e;
  keeps = λ k. subst s.keeps (sym e) k;
  kept = λ k. subst s.keeps e k;
}

pub farm-same : {P C W : Type 0} (c : callers.Ghosts C W) (part : P → C) (p q : P) → part q ≡ part p → IsClient (farm_part part c) (farm_part part c) p q
farm-same c part p q e = record {
  conversation = ap c.conversation e;
  dialect = ap c.dialect e;
  faults = ap c.faults e;
  vouches = λ digest command outcome h. subst (λ x. c.vouches x digest command outcome) (sym e) h;
  vouched = λ digest command outcome h. subst (λ x. c.vouches x digest command outcome) e h;
  genuine = λ h. subst c.genuine (sym e) h;
  was_genuine = λ h. subst c.genuine e h;
}

-- ---- what a source tree gave

module _ {S T W : Type 0} (w : world.Ghosts W) (s : sources.Ghosts S W) (t : sources.Ghosts T W) (a b : S) (x y : T) (m : IsSource s t a x) (n : IsSource s t b y) where
  pub gives-mirrored : (answers : List Given) → Gives w s a b answers → Gives w t x y answers
  gives-mirrored answers h = record {
    told = rw (m.given, n.given) h.told;
    kept = λ k. let held = h.kept (m.kept k) in (n.keeps held.0, n.listed ∙ held.1 ∙ sym m.listed);
    by_list = λ k. rw m.listed (h.by_list (m.kept k));
    contents = h.contents;
    holds = λ stamps k some. rw m.listed (h.holds stamps (m.kept k) some);
    later = rw (m.faults, n.faults) h.later;
  }

  pub reads-mirrored : (files : List InputFile) (IsSuch : List Given → Type 0) → HasRead w s files a b IsSuch → HasRead w t files x y IsSuch
  reads-mirrored files IsSuch h = record { answers = h.answers; gives = gives-mirrored h.answers h.gives; reads = h.reads; is_such = h.is_such }

-- ---- what a client was asked

module _ {C D W : Type 0} (w : world.Ghosts W) (c : callers.Ghosts C W) (d : callers.Ghosts D W) (a b : C) (x y : D) (m : IsClient c d a x) (n : IsClient c d b y) where
  stays-mirrored : Stays c.vouches c.genuine c.dialect a b → Stays d.vouches d.genuine d.dialect x y
  stays-mirrored h = record {
    triples = λ digest command outcome v. n.vouches digest command outcome (h.triples digest command outcome (m.vouched digest command outcome v));
    still_genuine = λ g. n.genuine (h.still_genuine (m.was_genuine g));
    same_dialect = n.dialect ∙ h.same_dialect ∙ sym m.dialect;
  }

  pub unasked-mirrored : IsUnasked c a b → IsUnasked d x y
  unasked-mirrored h = record {
    conversation_is = n.conversation ∙ h.conversation_is ∙ sym m.conversation;
    stays = stays-mirrored h.stays;
    faults_are = n.faults ∙ h.faults_are ∙ sym m.faults;
  }

  pub exchanged-mirrored : (IsSuch : List Exchange → Type 0) → HasExchanged c a b IsSuch → HasExchanged d x y IsSuch
  exchanged-mirrored IsSuch h = record {
    part = h.part;
    exchanged = record {
      told = rw (m.conversation, n.conversation) h.exchanged.told;
      stays = stays-mirrored h.exchanged.stays;
      later = rw (m.faults, n.faults) h.exchanged.later;
    };
    is_such = h.is_such;
  }

  pub ends-mirrored : (work : Work) (end : End Outcome RemoteCause) → EndsOr c work a b end → EndsOr d work x y end
  ends-mirrored work end (inl memory) = inl memory
  ends-mirrored work end (inr h) = inr (record {
    history = h.history;
    stored = h.stored;
    of_action = h.of_action;
    once = h.once;
    legal = h.legal;
    leaves = h.leaves;
    exchanged = exchanged-mirrored _ h.exchanged;
    counted = rw (m.faults, n.faults) h.counted;
    few = h.few;
  })

  pub right-mirrored : (work : Work) (end : End Outcome RemoteCause) → IsRightFor w c work a end → IsRightFor w d work x end
  right-mirrored work end h = λ tree g v.
      h tree (m.was_genuine g)
      (subst (λ (e : Dialect). c.vouches a (key_under work e).digest work.command (w.tool work.command tree)) m.dialect
      (m.vouched (key_under work (d.dialect x)).digest work.command (w.tool work.command tree) v))

-- ---- a remote attempt

module _ {C D S T W : Type 0} (w : world.Ghosts W) (c : callers.Ghosts C W) (d : callers.Ghosts D W) (s : sources.Ghosts S W) (t : sources.Ghosts T W)
    (farm_old farm_new : C) (client_old client_new : D) (old new : S) (tree_old tree_new : T)
    (m : IsClient c d farm_old client_old) (n : IsClient c d farm_new client_new) (u : IsSource s t old tree_old) (v : IsSource s t new tree_new) where
  pub idle-mirrored : IsIdleThere w c s farm_old farm_new old new → IsIdleThere w d t client_old client_new tree_old tree_new
  idle-mirrored h = record {
    unasked = unasked-mirrored w c d farm_old farm_new client_old client_new m n h.unasked;
    unread = gives-mirrored w s t old new tree_old tree_new u v _ h.unread;
    source_is = v.faults ∙ h.source_is ∙ sym u.faults;
  }

  run-mirrored : (gathered : Gathered) (accepts : Bool) (told : Option Decision) (end : End Outcome RemoteCause) → HasRunThere w c s gathered accepts told farm_old farm_new old new end
      → HasRunThere w d t gathered accepts told client_old client_new tree_old tree_new end
  run-mirrored gathered accepts told end h = record {
    root = h.root;
    directories = h.directories;
    tree = h.tree;
    ended = ends-mirrored w c d farm_old farm_new client_old client_new m n (work_on gathered accepts h.root h.directories) end h.ended;
    right = right-mirrored w c d farm_old farm_new client_old client_new m n (work_on gathered accepts h.root h.directories) end h.right;
    sound = h.sound;
    stays = exchanged-mirrored w c d farm_old farm_new client_old client_new m n _ h.stays;
    own = rw (u.faults, v.faults) (reads-mirrored w s t old new tree_old tree_new u v gathered.files _ h.own);
    stopped = h.stopped;
    unchanged = λ k. rw u.listed (h.unchanged (u.kept k));
  }

  pub there-mirrored : (gathered : Gathered) (accepts : Bool) (told : Option Decision) (end : End Outcome RemoteCause) → EndsThere w c s gathered accepts told farm_old farm_new old new end
      → EndsThere w d t gathered accepts told client_old client_new tree_old tree_new end
  there-mirrored gathered accepts told end (inl h) = inl (h.0, h.1, idle-mirrored h.2)
  there-mirrored gathered accepts told end (inr h) = inr (run-mirrored gathered accepts told end h)
