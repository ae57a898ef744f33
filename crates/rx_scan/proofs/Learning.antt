-- What a scan learns over several steps.
use Rattle.std.proofs.Common.{◌≤◌, ℕ, List, [], ◌∷◌, ◌++◌, subst}
use Rattle.std.specs.Prelude.{All, IfSome, None, Option, Some}
use Rattle.std.proofs.lemmas.List.Elements.{All-append, All-cons, All-head, All-nil, All-tail}
use Rattle.rx_world.specs.declared.looks.Look.{Look}
use Rattle.rx_world.specs.declared.sources.Given.{Given}
use Rattle.rx_world.specs.declared.sources.SourceEntry.{SourceEntry}
use Rattle.rx_world.specs.declared.sources.Sources as sources
use Rattle.rx_world.specs.declared.world.World as world
use Rattle.rx_world.specs.Answers.{Gives}
use Rattle.rx_world.proofs.AnswerLemmas.{gives-join, gives-none}
use Rattle.rx_reach.specs.declared.faults.SightFault.{SightFault}
use Rattle.rx_scan.specs.Lists.{BlamesSight, Fails, IsRightList, Learns, Listing, Shows, Stretch, Tells, stretch}
use Rattle.rx_reach.specs.Scenes.{IsRight, Scene, Sees, scene_of}
use Rattle.rx_reach.specs.Scans.{Ends, Scans}
use Rattle.rx_reach.specs.Sights.{Notes}
use Rattle.rx_reach.proofs.SightLemmas.{notes-join, notes-none, right-noted}

abbrev Sights : Type 0
Sights = List (List ℕ × Look)

all-left : {X : Type 0} (P : X → Type 0) (xs ys : List X) → All P (xs ++ ys) → All P xs
all-left P [] ys h = All-nil P
all-left P (x ∷ xs) ys h = All-cons P x xs (All-head P x (xs ++ ys) h) (all-left P xs ys (All-tail P x (xs ++ ys) h))

all-right : {X : Type 0} (P : X → Type 0) (xs ys : List X) → All P (xs ++ ys) → All P ys
all-right P [] ys h = h
all-right P (x ∷ xs) ys h = all-right P xs ys (All-tail P x (xs ++ ys) h)

abbrev pub RightBy : Option (List SourceEntry) → List Listing → Type 0
RightBy listed lists = IfSome listed (λ entries. All (IsRightList (scene_of entries)) lists)

pub by-join : (o : Option (List SourceEntry)) (xs ys : List Listing) → RightBy o xs → RightBy o ys → RightBy o (xs ++ ys)
by-join None xs ys h k = tt
by-join (Some es) xs ys h k = All-append (IsRightList (scene_of es)) xs ys h k

pub by-none : (o : Option (List SourceEntry)) → RightBy o []
by-none None = tt
by-none (Some es) = All-nil (IsRightList (scene_of es))

-- a scene that shows what was given by two steps shows each
pub shows-first : (scene : Scene) (old : Sights) (xs ys : List Given) (ls ms : List Listing) → Shows scene old (xs ++ ys) (ls ++ ms) → Shows scene old xs ls
shows-first scene old xs ys ls ms h = record {
  seen = h.seen;
  answered = all-left (IsRight scene) xs ys h.answered;
  listed = all-left (IsRightList scene) ls ms h.listed;
}

pub shows-then : (scene : Scene) (old mid : Sights) (xs ys : List Given) (ls ms : List Listing) → Notes old mid xs → Shows scene old (xs ++ ys) (ls ++ ms) → Shows scene mid ys ms
shows-then scene old mid xs ys ls ms n h = record {
  seen = right-noted scene old mid xs n h.seen (all-left (IsRight scene) xs ys h.answered);
  answered = all-right (IsRight scene) xs ys h.answered;
  listed = all-right (IsRightList scene) ls ms h.listed;
}

module _ {T W : Type 0} (w : world.Ghosts W) (s : sources.Ghosts T W) where
  tells-none : (a : T) → Tells w s a a [] []
  tells-none a = record { gives = gives-none w s a; by_list = λ k. by-none (s.listed a) }

  tells-one : (a b : T) (answers : List Given) → Gives w s a b answers → Tells w s a b answers []
  tells-one a b answers g = record { gives = g; by_list = λ k. by-none (s.listed a) }

  tells-join : (a b c : T) (xs ys : List Given) (ls ms : List Listing) → Tells w s a b xs ls → Tells w s b c ys ms → Tells w s a c (xs ++ ys) (ls ++ ms)
  tells-join a b c xs ys ls ms g h = record {
    gives = gives-join w s a b c xs ys g.gives h.gives;
    by_list = λ k. let then = g.gives.kept k in by-join (s.listed a) ls ms (g.by_list k) (subst (λ o. RightBy o ms) then.1 (h.by_list then.0));
  }

  -- nothing was asked for
  pub learns-none : (a : T) (old : Sights) (Fact : Scene → Type 0) → Sees old Fact → Learns w s a a old old Fact
  learns-none a old Fact f = record { answers = []; lists = []; tells = tells-none a; notes = notes-none old; fact = λ scene shows. f scene shows.seen }

  -- one step after another
  pub learns-join : (a b c : T) (old mid new : Sights) (P Q R : Scene → Type 0) → Learns w s a b old mid P → Learns w s b c mid new Q
      → ((scene : Scene) → P scene → Q scene → R scene) → Learns w s a c old new R
  learns-join a b c old mid new P Q R l m f = record {
    answers = l.answers ++ m.answers;
    lists = l.lists ++ m.lists;
    tells = tells-join a b c l.answers m.answers l.lists m.lists l.tells m.tells;
    notes = notes-join old mid new l.answers m.answers l.notes m.notes;
    fact = λ scene shows. f scene (l.fact scene (shows-first scene old l.answers m.answers l.lists m.lists shows)) (m.fact scene (shows-then scene old mid l.answers m.answers l.lists m.lists l.notes shows));
  }

  pub learns-so : (a b : T) (old new : Sights) (P Q : Scene → Type 0) → Learns w s a b old new P → ((scene : Scene) → P scene → Q scene) → Learns w s a b old new Q
  learns-so a b old new P Q l f = record { answers = l.answers; lists = l.lists; tells = l.tells; notes = l.notes; fact = λ scene shows. f scene (l.fact scene shows) }

  -- a stretch of looks and reads asks for no list
  pub learns-scans : (a b : T) (old new : Sights) (P : Scene → Type 0) → Scans w s a b old new P → Learns w s a b old new P
  learns-scans a b old new P k = record { answers = k.answers; lists = []; tells = tells-one a b k.answers k.gives; notes = k.notes; fact = λ scene shows. k.known scene shows.seen shows.answered }

  -- the same cause in other words
  pub fails-so : (a b : T) (old new : Sights) (Cause Other : Stretch → Type 0) → Fails w s a b old new Cause → ((st : Stretch) → Cause st → Other st) → Fails w s a b old new Other
  fails-so a b old new Cause Other h f =
      record { answers = h.answers; lists = h.lists; tells = h.tells; cause = f (stretch old new (s.faults a) (s.faults b) h.answers h.lists) h.cause }

  -- a step goes well, and the next ends it
  pub fails-join : (a b c : T) (old mid new : Sights) (P : Scene → Type 0) (Cause Other : Stretch → Type 0) → Learns w s a b old mid P → Fails w s b c mid new Cause
      → ((xs ys : List Given) (ls ms : List Listing) → s.faults a ≤ s.faults b → Notes old mid xs → ((scene : Scene) → Shows scene old xs ls → P scene)
      → Cause (stretch mid new (s.faults b) (s.faults c) ys ms) → Other (stretch old new (s.faults a) (s.faults c) (xs ++ ys) (ls ++ ms)))
      → Fails w s a c old new Other
  fails-join a b c old mid new P Cause Other l h f = record {
    answers = l.answers ++ h.answers;
    lists = l.lists ++ h.lists;
    tells = tells-join a b c l.answers h.answers l.lists h.lists l.tells h.tells;
    cause = f l.answers h.answers l.lists h.lists l.tells.gives.later l.notes l.fact h.cause;
  }

  -- what was learned ends it
  pub fails-after : (a b : T) (old new : Sights) (P : Scene → Type 0) (Cause : Stretch → Type 0) → Learns w s a b old new P
      → ((xs : List Given) (ls : List Listing) → Notes old new xs → ((scene : Scene) → Shows scene old xs ls → P scene) → Cause (stretch old new (s.faults a) (s.faults b) xs ls))
      → Fails w s a b old new Cause
  fails-after a b old new P Cause l f = record { answers = l.answers; lists = l.lists; tells = l.tells; cause = f l.answers l.lists l.notes l.fact }

  -- a cause that needs no ground ends it, as want of memory
  pub fails-always : (a b : T) (old mid new : Sights) (P : Scene → Type 0) (Cause : Stretch → Type 0) → Learns w s a b old mid P → ((st : Stretch) → Cause st) → Fails w s a b old new Cause
  fails-always a b old mid new P Cause l f =
      record { answers = l.answers; lists = l.lists; tells = l.tells; cause = f (stretch old new (s.faults a) (s.faults b) l.answers l.lists) }

  -- one step that ends it
  pub fails-one : (a b : T) (old new : Sights) (answers : List Given) (Cause : Stretch → Type 0) → Gives w s a b answers → Cause (stretch old new (s.faults a) (s.faults b) answers []) → Fails w s a b old new Cause
  fails-one a b old new answers Cause g cause = record { answers = answers; lists = []; tells = tells-one a b answers g; cause = cause }

  -- a look or a read that ends it
  pub fails-ends : (a b : T) (old new : Sights) (fault : SightFault) → Ends w s a b old fault → Fails w s a b old new (BlamesSight fault)
  fails-ends a b old new fault e = fails-one a b old new e.answers (BlamesSight fault) e.gives e.blames
