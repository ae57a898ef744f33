-- What an attempt read of its inputs, turn after turn, and the causes that are this machine's.
use Rattle.std.proofs.Common.{◌≡◌, ◌≤◌, ◌∙◌, ℕ, List, [], ◌∷◌, ◌++◌, Option, None, Some, sym, ap, subst, inl, inr, arith}
use Rattle.std.specs.Prelude.{All, IfSome}
use Rattle.std.proofs.lemmas.List.Elements.{All-append, All-contains, All-nil, Contains-append_right}
use Rattle.rx_base.specs.Digests.{digest_of}
use Rattle.rx_inputs.specs.Reads.{Differ}
use Rattle.rx_world.specs.declared.attempts.End.{End as AnyEnd}
use Rattle.rx_world.specs.declared.attempts.End.TheVariants as ends
use Rattle.rx_world.specs.declared.decisions.Decision.{Decision}
use Rattle.rx_world.specs.declared.input_files.InputFile.{InputFile}
use Rattle.rx_world.specs.declared.looks.Look.{Look}
use Rattle.rx_world.specs.declared.looks.Seen.{Seen}
use Rattle.rx_world.specs.declared.outcomes.Outcome.{Outcome}
use Rattle.rx_world.specs.declared.remote_causes.RemoteCause.{RemoteCause}
use Rattle.rx_world.specs.declared.remote_causes.RemoteCause.TheVariants as causes
use Rattle.rx_world.specs.declared.sources.Given.{Given}
use Rattle.rx_world.specs.declared.sources.SourceEntry.{SourceEntry}
use Rattle.rx_world.specs.declared.sources.Sources as sources
use Rattle.rx_world.specs.declared.world.World as world
use Rattle.rx_world.specs.Answers.{IsAnswerOf}
use Rattle.rx_world.specs.Inputs.{IsAsListed}
use Rattle.rx_world.specs.Sources.{given_bytes}
use Rattle.rx_world.proofs.AnswerLemmas.{gives-join, gives-none}
use Rattle.rx_remote.specs.declared.asks.Ask.{Ask}
use Rattle.rx_remote.specs.declared.asks.Ask.TheVariants.{End}
use Rattle.rx_remote.specs.declared.asks.Heard.{Heard}
use Rattle.rx_remote.specs.declared.tasks.Task.{Task}
use Rattle.rx_remote.specs.Fine.{IfEnded, IsEndOf}
use Rattle.rx_remote.specs.History.{next_of}
use Rattle.rx_remote.specs.Marks.{Turn}
use Rattle.rx_remote.specs.Reading.{HasRead, HeardGives, IsOwnCause, IsReadOf, IsUnchanged}
use Rattle.rx_remote.proofs.StopEnds.{IsFarms, heard-ends}

-- ---- what was read

pub read-none : {T W : Type 0} (w : world.Ghosts W) (s : sources.Ghosts T W) (files : List InputFile) (a : T) (IsSuch : List Given → Type 0) → IsSuch [] →
    HasRead w s files a a IsSuch
read-none w s files a IsSuch such =
    record { answers = []; gives = gives-none w s a; reads = All-nil (IsReadOf files); is_such = such }

pub read-are : {T W : Type 0} (w : world.Ghosts W) (s : sources.Ghosts T W) (files : List InputFile) (a b : T) (IsSuch IsAll : List Given → Type 0) →
    HasRead w s files a b IsSuch → ((answers : List Given) → IsSuch answers → IsAll answers) → HasRead w s files a b IsAll
read-are w s files a b IsSuch IsAll h so = record { answers = h.answers; gives = h.gives; reads = h.reads; is_such = so h.answers h.is_such }

pub read-then : {T W : Type 0} (w : world.Ghosts W) (s : sources.Ghosts T W) (files : List InputFile) (x y z : T) (IsSuch IsThen IsAll : List Given → Type 0) →
    HasRead w s files x y IsSuch → HasRead w s files y z IsThen → ((front back : List Given) → IsThen back → IsAll (front ++ back)) → HasRead w s files x z IsAll
read-then w s files x y z IsSuch IsThen IsAll h k both = record {
  answers = h.answers ++ k.answers;
  gives = gives-join w s x y z h.answers k.answers h.gives k.gives;
  reads = All-append (IsReadOf files) h.answers k.answers h.reads k.reads;
  is_such = both h.answers k.answers k.is_such;
}

-- ---- causes

own-farms : (files : List InputFile) (answers : List Given) (before now : ℕ) (told : Option Decision) → IsFarms (IsOwnCause files answers before now told)
own-farms files answers before now told = record {
  plain = record { version = λ low high. tt; spent = tt; calls = λ faults. tt; memory = tt };
  result = λ fault. tt;
  blob = λ expected got. tt;
}

-- the end has the cause that was heard
pub own-end : (files : List InputFile) (answers : List Given) (before now : ℕ) (told : Option Decision) (task : Task) (ask next : Ask) (heard : Heard)
    (earlier : List Turn) (end : AnyEnd Outcome RemoteCause) → HeardGives (IsOwnCause files answers before now told) heard →
    next ≡ next_of task (record { ask = ask; heard = heard } ∷ earlier) → next ≡ End end → IsEndOf (IsOwnCause files answers before now told) end
own-end files answers before now told task ask next heard earlier end given at e =
    subst (IfEnded (IsOwnCause files answers before now told)) (sym at ∙ e)
    (heard-ends (IsOwnCause files answers before now told) (own-farms files answers before now told) task ask heard earlier given)

own-later : (files : List InputFile) (front answers : List Given) (before between now : ℕ) (told : Option Decision) (cause : RemoteCause) → before ≤ between →
    IsOwnCause files answers between now told cause → IsOwnCause files (front ++ answers) before now told cause
own-later files front answers before between now told (causes.InputChanged input) l o = record {
  file = o.file;
  among = o.among;
  look = o.look;
  bytes = o.bytes;
  read = Contains-append_right front answers (given_bytes o.file.path o.look o.bytes) o.read;
  path_is = o.path_is;
  differ = o.differ;
}
own-later files front answers before between now told (causes.SourceFault path) l o =
    record { file = o.file; among = o.among; path_is = o.path_is; rose = let r = o.rose in omega arith }
own-later files front answers before between now told (causes.Stopped decision) l o = o
own-later files front answers before between now told (causes.CallFailed faults) l o = tt
own-later files front answers before between now told (causes.BadBlob expected got) l o = tt
own-later files front answers before between now told (causes.BadResult fault) l o = tt
own-later files front answers before between now told causes.OperationsSpent l o = tt
own-later files front answers before between now told (causes.WrongVersion low high) l o = tt
own-later files front answers before between now told causes.NoMemory l o = tt

-- the same after earlier reads
pub end-later : (files : List InputFile) (front answers : List Given) (before between now : ℕ) (told : Option Decision) (end : AnyEnd Outcome RemoteCause) →
    before ≤ between → IsEndOf (IsOwnCause files answers between now told) end → IsEndOf (IsOwnCause files (front ++ answers) before now told) end
end-later files front answers before between now told (ends.Done outcome origin) l o = tt
end-later files front answers before between now told (ends.Failed cause) l o = own-later files front answers before between now told cause l o

own-anyway : (files : List InputFile) (before now : ℕ) (told : Option Decision) (cause : RemoteCause) → IsOwnCause [] [] 0 0 told cause → IsOwnCause files [] before now told cause
own-anyway files before now told (causes.InputChanged input) o = let less = o.among.1 in absurd (omega arith)
own-anyway files before now told (causes.SourceFault path) o = let less = o.among.1 in absurd (omega arith)
own-anyway files before now told (causes.Stopped decision) o = o
own-anyway files before now told (causes.CallFailed faults) o = tt
own-anyway files before now told (causes.BadBlob expected got) o = tt
own-anyway files before now told (causes.BadResult fault) o = tt
own-anyway files before now told causes.OperationsSpent o = tt
own-anyway files before now told (causes.WrongVersion low high) o = tt
own-anyway files before now told causes.NoMemory o = tt

-- an end without any read
pub end-anyway : (files : List InputFile) (before now : ℕ) (told : Option Decision) (end : AnyEnd Outcome RemoteCause) → IsEndOf (IsOwnCause [] [] 0 0 told) end →
    IsEndOf (IsOwnCause files [] before now told) end
end-anyway files before now told (ends.Done outcome origin) o = tt
end-anyway files before now told (ends.Failed cause) o = own-anyway files before now told cause o

-- ---- nothing changes that is as it is listed

not-different : (entries : List SourceEntry) (file : InputFile) (look : Look) (bytes : List ℕ) (first second : Seen) → Differ file look bytes first second →
    IsAnswerOf entries (given_bytes file.path look bytes) → IsAsListed entries file → ⊥
not-different entries file look bytes first second (inl differ) answer there = differ.0 (answer.look_is ∙ there.look_is)
not-different entries file look bytes first second (inr differ) answer there =
    differ.1 (ap digest_of answer.bytes_are ∙ there.digest_is)

not-changed : (entries : List SourceEntry) (files : List InputFile) (answers : List Given) (before now : ℕ) (told : Option Decision) (cause : RemoteCause) →
    All (IsAnswerOf entries) answers → All (IsAsListed entries) files → IsOwnCause files answers before now told cause → IsUnchanged cause
not-changed entries files answers before now told (causes.InputChanged input) all there o =
    not-different entries o.file o.look o.bytes input.first input.second o.differ
    (All-contains (IsAnswerOf entries) answers (given_bytes o.file.path o.look o.bytes) all o.read) (All-contains (IsAsListed entries) files o.file there o.among)
not-changed entries files answers before now told (causes.SourceFault path) all there o = tt
not-changed entries files answers before now told (causes.Stopped decision) all there o = tt
not-changed entries files answers before now told (causes.CallFailed faults) all there o = tt
not-changed entries files answers before now told (causes.BadBlob expected got) all there o = tt
not-changed entries files answers before now told (causes.BadResult fault) all there o = tt
not-changed entries files answers before now told causes.OperationsSpent all there o = tt
not-changed entries files answers before now told (causes.WrongVersion low high) all there o = tt
not-changed entries files answers before now told causes.NoMemory all there o = tt

unchanged-over : (listed : Option (List SourceEntry)) (files : List InputFile) (answers : List Given) (before now : ℕ) (told : Option Decision)
    (end : AnyEnd Outcome RemoteCause) → IfSome listed (λ entries. All (IsAnswerOf entries) answers) → IsEndOf (IsOwnCause files answers before now told) end →
    IfSome listed (λ entries. All (IsAsListed entries) files → IsEndOf IsUnchanged end)
unchanged-over None files answers before now told end all o = tt
unchanged-over (Some entries) files answers before now told (ends.Done outcome origin) all o = λ there. tt
unchanged-over (Some entries) files answers before now told (ends.Failed cause) all o = λ there. not-changed entries files answers before now told cause all there o

pub unchanged-end : {T W : Type 0} (w : world.Ghosts W) (s : sources.Ghosts T W) (files : List InputFile) (x y : T) (told : Option Decision) (end : AnyEnd Outcome RemoteCause) →
    HasRead w s files x y (λ answers. IsEndOf (IsOwnCause files answers (s.faults x) (s.faults y) told) end) →
    s.keeps x → IfSome (s.listed x) (λ entries. All (IsAsListed entries) files → IsEndOf IsUnchanged end)
unchanged-end w s files x y told end h k = unchanged-over (s.listed x) files h.answers (s.faults x) (s.faults y) told end (h.gives.by_list k) h.is_such
