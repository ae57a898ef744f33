-- What an upload read: nothing, one file, and one part after another; the walk that collects blobs, and that over groups.
use Rattle.std.proofs.Common.{◌≡◌, ◌∙◌, ◌≤◌, ℕ, List, [], ◌∷◌, ◌++◌, Ok, refl, sym, ap, subst, inl, inr, arith}
use Rattle.std.specs.List.{AllByRecursion}
use Rattle.std.specs.Prelude.{Contains}
use Rattle.std.proofs.lemmas.List.{append_assoc, map-append}
use Rattle.rx_base.specs.Digests.{digest_of}
use Rattle.rx_base.specs.declared.digests.Digest.{Digest}
use Rattle.rx_base.proofs.Lists.{All-append, All-push, All-weaken}
use Rattle.rx_base.proofs.Members.{Contains-cons_cases, Contains-head, Contains-map, not_in_nothing}
use Rattle.rx_world.specs.declared.input_files.InputFile.{InputFile}
use Rattle.rx_world.specs.declared.sources.Given.{Given}
use Rattle.rx_world.specs.declared.sources.Sources as sources
use Rattle.rx_world.specs.declared.world.World as world
use Rattle.rx_world.specs.Answers.{Gives}
use Rattle.rx_world.specs.Inputs.{look_of}
use Rattle.rx_world.specs.Sources.{given_bytes}
use Rattle.rx_world.proofs.AnswerLemmas.{gives-join, gives-none}
use Rattle.rx_exec_messages.specs.declared.exchanges.NamedBlob.{NamedBlob}
use Rattle.rx_exec_messages.specs.Calls.{digests_of}
use Rattle.rx_inputs.specs.declared.read_fault.ReadFault.{ReadFault}
use Rattle.rx_inputs.specs.declared.read_fault.ReadFault.TheVariants as reads
use Rattle.rx_inputs.specs.Reads.{HasFailedRead, IsNextRead, IsReadCause}
use Rattle.rx_blobs.specs.declared.blob_fault.BlobFault.{BlobFault}
use Rattle.rx_blobs.specs.declared.blob_fault.BlobFault.TheVariants as faults
use Rattle.rx_blobs.specs.declared.blobs.Blob.{Blob}
use Rattle.rx_blobs.specs.declared.blobs.Blob.TheVariants.{File}
use Rattle.rx_blobs.specs.Faults.{of_read}
use Rattle.rx_blobs.specs.Uploads.{HasRead, IsCallFault, IsCollecting, IsOwn, IsReadEnd, IsReadFault, IsReadOf, IsWithin, digest_of_blob, digests_of_blobs}
use Rattle.rx_blobs.proofs.UploadLists.{within-push}

-- ---- more blobs, and more reads in front

-- one of them
pub one-within : (blobs : List Blob) (blob : Blob) → Contains blobs blob → IsWithin (blob ∷ []) blobs
one-within blobs blob there x c = elim (Contains-cons_cases blob [] x c) [ inl is ↦ subst (λ y. Contains blobs y) is there | inr later ↦ absurd (not_in_nothing x later) ]

read-wider : (few all : List Blob) (answers : List Given) → IsWithin few all → AllByRecursion (IsReadOf few) answers → AllByRecursion (IsReadOf all) answers
read-wider few all answers w h =
    All-weaken (IsReadOf few) (IsReadOf all) answers
    (λ answer is. record { file = is.file; there = w (File is.file) is.there; look = is.look; bytes = is.bytes; answer_is = is.answer_is }) h

fault-later : (few all : List Blob) (before between now : ℕ) (front answers : List Given) (fault : BlobFault) → IsWithin few all → before ≤ between →
    IsReadFault few between now answers fault → IsReadFault all before now (front ++ answers) fault
fault-later few all before between now front answers (faults.InputChanged input) w later f = record {
  file = f.file;
  there = w (File f.file) f.there;
  front = front ++ f.front;
  last = f.last;
  answers_are = ap (λ xs. front ++ xs) f.answers_are ∙ sym (append_assoc front f.front f.last);
  change = f.change;
}
fault-later few all before between now front answers (faults.SourceFault path) w later f =
    (omega (arith, f.0, later), record { file = f.1.file; there = w (File f.1.file) f.1.there; path_is = f.1.path_is })
fault-later few all before between now front answers (faults.Call f) w later h = tt
fault-later few all before between now front answers (faults.Refused d code) w later h = tt
fault-later few all before between now front answers (faults.Missing d) w later h = tt
fault-later few all before between now front answers (faults.BadBlob expected got) w later h = tt
fault-later few all before between now front answers faults.NoMemory w later h = tt

-- a fault of a call says nothing of what was read
call-fault : (blobs : List Blob) (before now : ℕ) (answers : List Given) (fault : BlobFault) → IsCallFault fault → IsReadFault blobs before now answers fault
call-fault blobs before now answers (faults.Call f) is = tt
call-fault blobs before now answers (faults.Refused d code) is = tt
call-fault blobs before now answers (faults.Missing d) is = tt
call-fault blobs before now answers (faults.BadBlob expected got) is = tt
call-fault blobs before now answers (faults.InputChanged input) is = absurd is
call-fault blobs before now answers (faults.SourceFault path) is = absurd is
call-fault blobs before now answers faults.NoMemory is = tt

module _ {T W : Type 0} (w : world.Ghosts W) (s : sources.Ghosts T W) where
  pub read-none : (x : T) (blobs : List Blob) (IsSo : List Given → Type 0) → IsSo [] → HasRead w s x x blobs IsSo
  read-none x blobs IsSo so = record { answers = []; gives = gives-none w s x; reads = tt; is_so = so }

  pub read-then : {A : Type 0} (a b c : T) (blobs few : List Blob) (x : A) → HasRead w s a b blobs (λ answers. Unit {0}) →
      HasRead w s b c few (IsReadEnd {A = A} few (s.faults b) (s.faults c) (Ok x)) → IsWithin few blobs → HasRead w s a c blobs (λ answers. Unit {0})
  read-then a b c blobs few x f g within = record {
    answers = f.answers ++ g.answers;
    gives = gives-join w s a b c f.answers g.answers f.gives g.gives;
    reads = All-append (IsReadOf blobs) f.answers g.answers f.reads (read-wider few blobs g.answers within g.reads);
    is_so = tt;
  }

  pub read-fails : (a b c : T) (blobs few : List Blob) (fault : BlobFault) → HasRead w s a b blobs (λ answers. Unit {0}) →
      HasRead w s b c few (λ answers. IsReadFault few (s.faults b) (s.faults c) answers fault) → IsWithin few blobs →
      HasRead w s a c blobs (λ answers. IsReadFault blobs (s.faults a) (s.faults c) answers fault)
  read-fails a b c blobs few fault f g within = record {
    answers = f.answers ++ g.answers;
    gives = gives-join w s a b c f.answers g.answers f.gives g.gives;
    reads = All-append (IsReadOf blobs) f.answers g.answers f.reads (read-wider few blobs g.answers within g.reads);
    is_so = fault-later few blobs (s.faults a) (s.faults b) (s.faults c) f.answers g.answers fault within f.gives.later g.is_so;
  }

  -- the same reads, at whose end a call failed or memory ran out
  pub read-stops : (a b : T) (blobs : List Blob) (fault : BlobFault) → HasRead w s a b blobs (λ answers. Unit {0}) → IsCallFault fault →
      HasRead w s a b blobs (λ answers. IsReadFault blobs (s.faults a) (s.faults b) answers fault)
  read-stops a b blobs fault f is =
      record { answers = f.answers; gives = f.gives; reads = f.reads; is_so = call-fault blobs (s.faults a) (s.faults b) f.answers fault is }

  pub read-ends : (B : Type 0) (a b : T) (blobs : List Blob) (x : B) → HasRead w s a b blobs (λ answers. Unit {0}) →
      HasRead w s a b blobs (IsReadEnd {A = B} blobs (s.faults a) (s.faults b) (Ok x))
  read-ends B a b blobs x f = record { answers = f.answers; gives = f.gives; reads = f.reads; is_so = tt }

  -- ---- one file

  pub file-read : (B : Type 0) (a b : T) (file : InputFile) (bytes : List ℕ) (x : B) → Gives w s a b (given_bytes file.path (look_of file) bytes ∷ []) →
      HasRead w s a b (File file ∷ []) (IsReadEnd {A = B} (File file ∷ []) (s.faults a) (s.faults b) (Ok x))
  file-read B a b file bytes x g = record {
    answers = given_bytes file.path (look_of file) bytes ∷ [];
    gives = g;
    reads = (record { file = file; there = Contains-head (File file) []; look = look_of file; bytes = bytes; answer_is = refl }, tt);
    is_so = tt;
  }

  next-read : (file : InputFile) (answers : List Given) → IsNextRead (file ∷ []) answers → AllByRecursion (IsReadOf (File file ∷ [])) answers
  next-read file answers n = elim n [
    | inl none ↦ rw none tt
    | inr one ↦ rw one.2 (record { file = file; there = Contains-head (File file) []; look = one.0; bytes = one.1; answer_is = refl }, tt)
  ]

  cause-reads : (file : InputFile) (before now : ℕ) (answers : List Given) (fault : ReadFault) → IsReadCause file before now answers fault →
      AllByRecursion (IsReadOf (File file ∷ [])) answers
  cause-reads file before now answers (reads.InputChanged input) h =
      rw h.read (record { file = file; there = Contains-head (File file) []; look = h.look; bytes = h.bytes; answer_is = refl }, tt)
  cause-reads file before now answers (reads.SourceFault path) h = rw h.0 tt
  cause-reads file before now answers reads.NoMemory h = next-read file answers h

  cause-shown : (file : InputFile) (before now : ℕ) (answers : List Given) (fault : ReadFault) → IsReadCause file before now answers fault →
      IsReadFault (File file ∷ []) before now answers (of_read fault)
  cause-shown file before now answers (reads.InputChanged input) h =
      record { file = file; there = Contains-head (File file) []; front = []; last = answers; answers_are = refl; change = h }
  cause-shown file before now answers (reads.SourceFault path) h = (h.2, record { file = file; there = Contains-head (File file) []; path_is = h.1 })
  cause-shown file before now answers reads.NoMemory h = tt

  pub file-failed : (a b : T) (file : InputFile) (fault : ReadFault) → HasFailedRead w s a b file fault →
      HasRead w s a b (File file ∷ []) (λ answers. IsReadFault (File file ∷ []) (s.faults a) (s.faults b) answers (of_read fault))
  file-failed a b file fault h = record {
    answers = h.answers;
    gives = h.gives;
    reads = cause-reads file (s.faults a) (s.faults b) h.answers fault h.caused;
    is_so = cause-shown file (s.faults a) (s.faults b) h.answers fault h.caused;
  }

  -- ---- the walk that collects blobs

  pub collecting-starts : (x : T) (blobs : List Blob) (wanted : List Digest) → IsCollecting w s x x blobs blobs wanted wanted []
  collecting-starts x blobs wanted = record {
    wanted_are = refl;
    own = tt;
    left_in = λ b c. c;
    among = λ d c. absurd (not_in_nothing d c);
    read = read-none x blobs (λ answers. Unit {0}) tt;
  }

  pub collecting-goes-on : (a b c : T) (blobs left others : List Blob) (wanted later : List Digest) (digest : Digest) (named : List NamedBlob) (blob : Blob) (bytes x : List ℕ) →
      IsCollecting w s a b blobs left wanted (digest ∷ later) named → digest_of_blob blob ≡ digest → Contains left blob → IsWithin others left →
      digest_of bytes ≡ digest_of_blob blob → HasRead w s b c (blob ∷ []) (IsReadEnd {A = List ℕ} (blob ∷ []) (s.faults b) (s.faults c) (Ok x)) →
      IsCollecting w s a c blobs others wanted later (named ++ record { digest = digest; bytes = bytes } ∷ [])
  collecting-goes-on a b c blobs left others wanted later digest named blob bytes x f is there within own g =
      let added : NamedBlob = record { digest = digest; bytes = bytes } in
      let in-all : Contains blobs blob = f.left_in blob there in
      let grown = map-append (λ (n : NamedBlob). n.digest) named (added ∷ []) in
      record {
        wanted_are = ap (λ (ds : List Digest). ds ++ later) grown ∙ append_assoc (digests_of named) (digest ∷ []) later ∙ f.wanted_are;
        own = All-push IsOwn named added f.own (own ∙ is);
        left_in = λ b c. f.left_in b (within b c);
        among = subst (λ ds. IsWithin ds (digests_of_blobs blobs)) (sym grown)
            (within-push (digests_of named) (digests_of_blobs blobs) digest f.among
            (subst (λ d. Contains (digests_of_blobs blobs) d) is (Contains-map digest_of_blob blobs blob in-all)));
        read = read-then a b c blobs (blob ∷ []) x f.read g (one-within blobs blob in-all);
      }
