-- Uploads and fetches as turns of an attempt.
use Rattle.std.proofs.Common.{◌≡◌, ◌∙◌, ℕ, Bool, true, false, List, [], ◌∷◌, ◌++◌, Option, map, refl, sym, ap, subst, inl, inr, arith}
use Rattle.std.specs.Prelude.{All, Contains, None, Ok, Some}
use Rattle.std.proofs.lemmas.List.Elements.{All-append, All-cons, All-contains, All-contains_itself, All-from_recursion, All-map, All-nil, All-weaker, Contains-append_right}
use Rattle.rx_base.specs.Digests.{digest_of}
use Rattle.rx_base.specs.Results.{◌>>=◌}
use Rattle.rx_base.specs.SortedPaths.{HasSameMembers}
use Rattle.rx_base.specs.declared.digests.Digest.{Digest}
use Rattle.rx_action.specs.declared.action_keys.ActionKey.{ActionKey}
use Rattle.rx_action.specs.ActionKeys.{action_of, key_of}
use Rattle.rx_action.specs.OutputPaths.{checked, misplaced}
use Rattle.rx_world.specs.declared.commands.Command.{Command}
use Rattle.rx_world.specs.declared.decisions.Decision.{Decision}
use Rattle.rx_world.specs.declared.input_files.InputFile.{InputFile}
use Rattle.rx_world.specs.declared.sources.Given.{Given}
use Rattle.rx_world.specs.declared.sources.Sources as sources
use Rattle.rx_world.specs.declared.versions.Dialect.{Dialect}
use Rattle.rx_world.specs.declared.world.World as world
use Rattle.rx_world.specs.Sources.{given_bytes}
use Rattle.rx_exec_messages.specs.Calls.{IsPartOf}
use Rattle.rx_blobs.specs.declared.blob_fault.BlobFault.{BlobFault}
use Rattle.rx_blobs.specs.declared.blob_fault.BlobFault.TheVariants as blobs
use Rattle.rx_blobs.specs.declared.blobs.Blob.{Blob}
use Rattle.rx_blobs.specs.declared.blobs.Blob.TheVariants.{File, Made}
use Rattle.rx_blobs.specs.Faults.{IsBadBlob, IsFetchCause}
use Rattle.rx_blobs.specs.Uploads.{AreMade, HasRead as HasReadBlobs, IsMade, IsReadFault, IsReadOf as IsReadOfBlobs, IsUploadCause, digests_of_blobs}
use Rattle.rx_remote.specs.declared.asks.Ask.TheVariants.{Fetch, Upload}
use Rattle.rx_remote.specs.declared.asks.Heard.TheVariants.{Uploaded}
use Rattle.rx_remote.proofs.OnceLemmas.{part-member}
use Rattle.rx_remote.specs.Actions.{AreNamed, AreOnceEach, Work, all_blobs, directory_blob, file_blob, made_blob}
use Rattle.rx_remote.specs.Legal.{Fits}
use Rattle.rx_remote.specs.Reading.{BlobsGive, HasRead, IsOwnCause, IsReadOf}
use Rattle.rx_remote.specs.Runs.{blobs_under}
use Rattle.rx_remote.specs.Turns.{IsBlobCount}

-- ---- an upload

part-all : (some all : List Digest) → IsPartOf some all → All (λ digest. Contains all digest) some
part-all [] all p = All-nil (λ digest. Contains all digest)
part-all (x ∷ xs) [] p = absurd p
part-all (x ∷ xs) (y ∷ ys) (inl p) =
    All-cons (λ digest. Contains (y ∷ ys) digest) x xs (subst (λ (z : Digest). Contains (y ∷ ys) z) (sym p.0) (0, omega arith, refl))
    (All-weaker (λ digest. Contains ys digest) (λ digest. Contains (y ∷ ys) digest) (λ z c. Contains-append_right (y ∷ []) ys z c) xs (part-all xs ys p.1))
part-all (x ∷ xs) (y ∷ ys) (inr p) =
    All-weaker (λ digest. Contains ys digest) (λ digest. Contains (y ∷ ys) digest) (λ z c. Contains-append_right (y ∷ []) ys z c) (x ∷ xs) (part-all (x ∷ xs) ys p)

pub stored-fits : (stored left_out : List Digest) (fresh : Bool) → IsPartOf left_out stored → (fresh ≡ true → left_out ≡ []) → Fits stored (Upload fresh) (Uploaded left_out)
stored-fits stored left_out true p none = (part-all left_out stored p, inr (refl, none refl))
stored-fits stored left_out false p none = (part-all left_out stored p, inl refl)

pub upload-good : (before now : ℕ) (digests : List Digest) (fault : BlobFault) → IsUploadCause before now digests fault → IsBadBlob fault → ⊥
upload-good before now digests (blobs.BadBlob expected got) cause bad = cause
upload-good before now digests (blobs.Call fault) cause bad = bad
upload-good before now digests (blobs.Missing digest) cause bad = bad
upload-good before now digests (blobs.Refused digest code) cause bad = bad
upload-good before now digests (blobs.InputChanged input) cause bad = bad
upload-good before now digests (blobs.SourceFault path) cause bad = bad
upload-good before now digests blobs.NoMemory cause bad = bad

pub upload-count : (before now : ℕ) (digests : List Digest) (fault : BlobFault) → IsUploadCause before now digests fault → IsBlobCount before now fault
upload-count before now digests (blobs.BadBlob expected got) cause = tt
upload-count before now digests (blobs.Call fault) cause = cause
upload-count before now digests (blobs.Missing digest) cause = absurd cause
upload-count before now digests (blobs.Refused digest code) cause = cause.0
upload-count before now digests (blobs.InputChanged input) cause = tt
upload-count before now digests (blobs.SourceFault path) cause = tt
upload-count before now digests blobs.NoMemory cause = tt

-- what was read of the blobs was read of the files
abbrev Within : List Blob → List InputFile → Type 0
Within all files = (file : InputFile) → Contains all (File file) → Contains files file

read-of : (all : List Blob) (files : List InputFile) (answer : Given) → Within all files → IsReadOfBlobs all answer → IsReadOf files answer
read-of all files answer within r =
    record { file = r.file; among = within r.file r.there; look = r.look; bytes = r.bytes; answer_is = r.answer_is }

fault-own : (all : List Blob) (files : List InputFile) (answers : List Given) (before now : ℕ) (told : Option Decision) (fault : BlobFault) → Within all files →
    IsReadFault all before now answers fault → BlobsGive (IsOwnCause files answers before now told) fault
fault-own all files answers before now told (blobs.InputChanged input) within e = record {
  file = e.file;
  among = within e.file e.there;
  look = e.change.look;
  bytes = e.change.bytes;
  read =
      let given : Given = given_bytes e.file.path e.change.look e.change.bytes in
      let whole : answers ≡ e.front ++ given ∷ [] = e.answers_are ∙ ap (λ (last : List Given). e.front ++ last) e.change.read in
      subst (λ (all : List Given). Contains all given) (sym whole) (Contains-append_right e.front (given ∷ []) given (0, omega arith, refl));
  path_is = e.change.path_is;
  differ = e.change.differ;
}
fault-own all files answers before now told (blobs.SourceFault path) within e =
    record { file = e.1.file; among = within e.1.file e.1.there; path_is = e.1.path_is; rose = e.0 }
fault-own all files answers before now told (blobs.BadBlob expected got) within e = tt
fault-own all files answers before now told (blobs.Call fault) within e = tt
fault-own all files answers before now told (blobs.Missing digest) within e = tt
fault-own all files answers before now told (blobs.Refused digest code) within e = tt
fault-own all files answers before now told blobs.NoMemory within e = tt

pub upload-read : {T W : Type 0} (w : world.Ghosts W) (s : sources.Ghosts T W) (all : List Blob) (files : List InputFile) (x y : T) (told : Option Decision)
    (IsEnd IsSuch : List Given → Type 0) → Within all files → HasReadBlobs w s x y all IsEnd → ((answers : List Given) → IsEnd answers → IsSuch answers) →
    HasRead w s files x y IsSuch
upload-read w s all files x y told IsEnd IsSuch within h so = record {
  answers = h.answers;
  gives = h.gives;
  reads = All-weaker (IsReadOfBlobs all) (IsReadOf files) (λ answer r. read-of all files answer within r) h.answers (All-from_recursion (IsReadOfBlobs all) h.answers h.reads);
  is_such = so h.answers h.is_so;
}

pub upload-own : {T W : Type 0} (w : world.Ghosts W) (s : sources.Ghosts T W) (all : List Blob) (files : List InputFile) (x y : T) (told : Option Decision) (fault : BlobFault) →
    Within all files → HasReadBlobs w s x y all (λ answers. IsReadFault all (s.faults x) (s.faults y) answers fault) →
    HasRead w s files x y (λ answers. BlobsGive (IsOwnCause files answers (s.faults x) (s.faults y) told) fault)
upload-own w s all files x y told fault within h =
    upload-read w s all files x y told (λ answers. IsReadFault all (s.faults x) (s.faults y) answers fault)
    (λ answers. BlobsGive (IsOwnCause files answers (s.faults x) (s.faults y) told) fault) within h
    (λ answers e. fault-own all files answers (s.faults x) (s.faults y) told fault within e)

-- ---- a fetch

pub fetch-count : (before now : ℕ) (digests : List Digest) (fault : BlobFault) → IsFetchCause before now digests fault → IsBlobCount before now fault
fetch-count before now digests (blobs.BadBlob expected got) cause = tt
fetch-count before now digests (blobs.Call fault) cause = cause
fetch-count before now digests (blobs.Missing digest) cause = cause.0
fetch-count before now digests (blobs.Refused digest code) cause = cause.0
fetch-count before now digests (blobs.InputChanged input) cause = tt
fetch-count before now digests (blobs.SourceFault path) cause = tt
fetch-count before now digests blobs.NoMemory cause = tt

-- a fetch reads no file
pub fetch-own : (files : List InputFile) (answers : List Given) (first last before now : ℕ) (told : Option Decision) (digests : List Digest) (fault : BlobFault) →
    IsFetchCause first last digests fault → BlobsGive (IsOwnCause files answers before now told) fault
fetch-own files answers first last before now told digests (blobs.InputChanged input) cause = absurd cause
fetch-own files answers first last before now told digests (blobs.SourceFault path) cause = absurd cause
fetch-own files answers first last before now told digests (blobs.BadBlob expected got) cause = tt
fetch-own files answers first last before now told digests (blobs.Call fault) cause = tt
fetch-own files answers first last before now told digests (blobs.Missing digest) cause = tt
fetch-own files answers first last before now told digests (blobs.Refused digest code) cause = tt
fetch-own files answers first last before now told digests blobs.NoMemory cause = tt

pub fetched-honest : (blob : Digest → List ℕ) (digests others : List Digest) (texts : List (List ℕ)) → texts ≡ map blob digests → Fetch digests ≡ Fetch others → texts ≡ map blob others
fetched-honest blob digests others texts h e = let same : digests ≡ others = cc in h ∙ ap (λ (ds : List Digest). map blob ds) same

-- ---- the action's blobs

all-made : (key : ActionKey) (work : Work) → digest_of key.action_blob ≡ key.digest → digest_of key.command_blob ≡ key.command_digest → AreNamed work.directories →
    All IsMade (all_blobs key work)
all-made key work action command named =
    All-cons IsMade (made_blob key.digest key.action_blob) (made_blob key.command_digest key.command_blob ∷ (map directory_blob work.directories ++ map file_blob work.files)) action
    (All-cons IsMade (made_blob key.command_digest key.command_blob) (map directory_blob work.directories ++ map file_blob work.files) command
    (All-append IsMade (map directory_blob work.directories) (map file_blob work.files)
    (All-map IsMade directory_blob work.directories
    (All-weaker (λ d. Contains work.directories d) (λ d. IsMade (directory_blob d)) (λ d c. named d c) work.directories (All-contains_itself work.directories)))
    (All-map IsMade file_blob work.files (All-weaker (λ f. Contains work.files f) (λ f. IsMade (file_blob f)) (λ f c. tt) work.files (All-contains_itself work.files)))))

-- the blobs of an action have the digests of their bytes
pub are-made : (work : Work) (dialect : Dialect) → AreNamed work.directories → (blob : Blob) → Contains (all_blobs (key_of work.command work.root dialect) work) blob → IsMade blob
are-made work dialect named blob c =
    All-contains IsMade (all_blobs (key_of work.command work.root dialect) work) blob (all-made (key_of work.command work.root dialect) work refl refl named) c

abbrev IsFileOf : List InputFile → Blob → Type 0
IsFileOf files (Made named) = Unit {0}
IsFileOf files (File file) = Contains files file

all-files : (key : ActionKey) (work : Work) → All (IsFileOf work.files) (all_blobs key work)
all-files key work =
    All-cons (IsFileOf work.files) (made_blob key.digest key.action_blob) (made_blob key.command_digest key.command_blob ∷ (map directory_blob work.directories ++ map file_blob work.files)) tt
    (All-cons (IsFileOf work.files) (made_blob key.command_digest key.command_blob) (map directory_blob work.directories ++ map file_blob work.files) tt
    (All-append (IsFileOf work.files) (map directory_blob work.directories) (map file_blob work.files)
    (All-map (IsFileOf work.files) directory_blob work.directories
    (All-weaker (λ d. Contains work.directories d) (λ d. IsFileOf work.files (directory_blob d)) (λ d c. tt) work.directories (All-contains_itself work.directories)))
    (All-map (IsFileOf work.files) file_blob work.files (All-contains_itself work.files))))

-- and each file is one of the job's
pub are-files : (key : ActionKey) (work : Work) (file : InputFile) → Contains (all_blobs key work) (File file) → Contains work.files file
are-files key work file c = All-contains (IsFileOf work.files) (all_blobs key work) (File file) (all-files key work) c

key-by : (at : Option ℕ) (made key : ActionKey) → (checked at >>= (λ u. Ok made)) ≡ Ok key → key ≡ made
key-by None made key e = cc
key-by (Some n) made key e = absurd (cc e)

-- a key that was made is the one of the command and the root
pub key-is : (command : Command) (root : Digest) (dialect : Dialect) (key : ActionKey) → action_of command root dialect ≡ Ok key → key ≡ key_of command root dialect
unfolding action_of
key-is command root dialect key e = key-by (misplaced command.working_directory command.outputs) (key_of command root dialect) key e

pub ready-made : (work : Work) (dialect : Dialect) (key : ActionKey) (first : List Blob) → key ≡ key_of work.command work.root dialect → AreNamed work.directories →
    AreOnceEach (all_blobs key work) first → AreMade first
ready-made work dialect key first is named o blob c =
    are-made work dialect named blob
    (subst (λ (k : ActionKey). Contains (all_blobs k work) blob) is (part-member first (all_blobs key work) blob o.part c))

pub ready-within : (key : ActionKey) (work : Work) (first : List Blob) → AreOnceEach (all_blobs key work) first →
    (file : InputFile) → Contains first (File file) → Contains work.files file
ready-within key work first o file c = are-files key work file (part-member first (all_blobs key work) (File file) o.part c)

-- its blobs have the digests of all of the action's
pub ready-members : (work : Work) (dialect : Dialect) (key : ActionKey) (first : List Blob) → key ≡ key_of work.command work.root dialect →
    AreOnceEach (all_blobs key work) first → HasSameMembers (blobs_under work dialect) (digests_of_blobs first)
ready-members work dialect key first is o =
    subst (λ (k : ActionKey). HasSameMembers (digests_of_blobs (all_blobs k work)) (digests_of_blobs first)) is o.members
