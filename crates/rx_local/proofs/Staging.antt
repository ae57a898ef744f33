-- Files that are staged one after the other.
use Rattle.std.proofs.Common.{inl, inr, ◌≡◌, ℕ, ◌<◌, ◌+◌, List, [], ◌∷◌, ◌++◌, refl, ap, sym, ◌∙◌, subst, suc, take, drop, length, get_or, map, append_assoc, arith}
use Rattle.std.specs.Prelude.{All, Contains, None, Option, Some}
use Rattle.std.proofs.lemmas.List.{take_more, take-append-drop}
use Rattle.std.proofs.lemmas.List.Elements.{All-contains, All-head, All-tail, Contains-append_right}
use Rattle.std.proofs.Math.Seq.{drop-cons}
use Rattle.rx_base.specs.Digests.{digest_of}
use Rattle.rx_world.specs.declared.attempts.Cause.{Cause}
use Rattle.rx_world.specs.declared.attempts.Cause.TheVariants.{BenchFault, InputChanged, NoMemory, OutputMissing, OutputTooLarge, SourceFault, Stopped}
use Rattle.rx_world.specs.declared.input_files.InputFile.{InputFile}
use Rattle.rx_world.specs.declared.looks.Look.{Look}
use Rattle.rx_world.specs.declared.looks.ChangedInput.{ChangedInput}
use Rattle.rx_world.specs.declared.looks.Seen.{Seen}
use Rattle.rx_world.specs.declared.looks.Stamp.{Stamp}
use Rattle.rx_world.specs.declared.outcomes.FileOut.{FileOut}
use Rattle.rx_world.specs.declared.sources.Given.{Given}
use Rattle.rx_world.specs.declared.sources.SourceEntry.{SourceEntry}
use Rattle.rx_world.specs.declared.sources.Sources as sources
use Rattle.rx_world.specs.declared.trees.Tree.{Tree}
use Rattle.rx_world.specs.declared.world.World as world
use Rattle.rx_world.specs.Answers.{HasContent, IsAnswerOf}
use Rattle.rx_world.specs.Sources.{entry_at, given_bytes}
use Rattle.rx_world.specs.Trees.{tree_with_files}
use Rattle.rx_world.proofs.AnswerLemmas.{gives-join, gives-none}
use Rattle.rx_world.specs.Inputs.{IsAsListed, listed_copy, look_of, world_copy}
use Rattle.rx_inputs.specs.declared.read_fault.ReadFault.{ReadFault}
use Rattle.rx_inputs.specs.declared.read_fault.ReadFault.TheVariants as reads
use Rattle.rx_inputs.specs.Reads.{Differ, IsNextRead, IsReadCause}
use Rattle.rx_local.specs.Stage.{AreStaged, HasFailedStaging, HasStaged, IsChangedInput, IsFront, IsRefusedInput, IsStageCause, PutsAll, cause_of_read}

-- ---- one file

abbrev pub copy_of : InputFile → List ℕ → FileOut
copy_of file bytes = record { path = file.path; bytes = bytes; executable = file.executable }

abbrev pub read_of : InputFile → List ℕ → Given
read_of file bytes = given_bytes file.path (look_of file) bytes

pub staged-one : (file : InputFile) (bytes : List ℕ) → digest_of bytes ≡ file.digest → AreStaged (file ∷ []) (read_of file bytes ∷ []) (copy_of file bytes ∷ [])
staged-one file bytes d = (record { read = refl; digest_is = d; path_is = refl; mark_is = refl }, tt)

-- no file was staged before this one
no-front : (file : InputFile) (answers last : List Given) → answers ≡ last → IsFront (file ∷ []) (file ∷ []) answers last
no-front file answers last e = record { front = []; read = []; staged = []; files_are = refl; answers_are = e; each = tt }

pub read-cause : (file : InputFile) (before now : ℕ) (answers : List Given) (fault : ReadFault) → IsReadCause file before now answers fault → IsStageCause (file ∷ []) answers (cause_of_read fault)
read-cause file before now answers (reads.InputChanged input) h =
    record { file = file; rest = []; last = answers; front = no-front file answers answers refl; change = h }
read-cause file before now answers (reads.SourceFault path) h = record { file = file; rest = []; front = no-front file answers [] h.0; path_is = h.1 }
read-cause file before now answers reads.NoMemory h = record { rest = file ∷ []; last = answers; front = no-front file answers answers refl; next = h }

pub refused-one : (file : InputFile) (bytes : List ℕ) → digest_of bytes ≡ file.digest → IsRefusedInput (file ∷ []) (read_of file bytes ∷ [])
refused-one file bytes d = record {
  file = file;
  rest = [];
  bytes = bytes;
  front = no-front file (read_of file bytes ∷ []) (read_of file bytes ∷ []) refl;
  digest_is = d;
}

-- ---- files after files

staged-append : (xs ys : List InputFile) (answers more : List Given) (copies others : List FileOut) → AreStaged xs answers copies → AreStaged ys more others → AreStaged (xs ++ ys) (answers ++ more) (copies ++ others)
staged-append [] ys [] more [] others h k = k
staged-append (x ∷ xs) ys (a ∷ answers) more (c ∷ copies) others h k = (h.0, staged-append xs ys answers more copies others h.1 k)
staged-append [] ys [] more (c ∷ copies) others h k = absurd h
staged-append [] ys (a ∷ answers) more copies others h k = absurd h
staged-append (x ∷ xs) ys [] more copies others h k = absurd h
staged-append (x ∷ xs) ys (a ∷ answers) more [] others h k = absurd h

tree_with_files-append : (copies others : List FileOut) (tree : Tree) → tree_with_files (copies ++ others) tree ≡ tree_with_files others (tree_with_files copies tree)
tree_with_files-append [] others tree = refl
tree_with_files-append (c ∷ copies) others tree = tree_with_files-append copies others _

puts-append : (a b c : Option Tree) (copies others : List FileOut) → PutsAll a b copies → PutsAll b c others → PutsAll a c (copies ++ others)
puts-append None b c copies others h k = tt
puts-append (Some x) None c copies others h k = absurd h
puts-append (Some x) (Some y) None copies others h k = absurd k
puts-append (Some x) (Some y) (Some z) copies others h k = k ∙ ap (tree_with_files others) h ∙ sym (tree_with_files-append copies others x)

puts-none : (a : Option Tree) → PutsAll a a []
puts-none None = tt
puts-none (Some x) = refl

pub has-none : {T W : Type 0} (w : world.Ghosts W) (s : sources.Ghosts T W) (a : T) (t : Option Tree)
    → HasStaged w s a a [] (PutsAll t t)
has-none w s a t = record {
  answers = [];
  staged = [];
  gives = gives-none w s a;
  each = tt;
  put = puts-none t;
}

pub has-append : {T W : Type 0} (w : world.Ghosts W) (s : sources.Ghosts T W) (a b c : T) (xs ys : List InputFile) (t u v : Option Tree)
    → HasStaged w s a b xs (PutsAll t u) → HasStaged w s b c ys (PutsAll u v) → HasStaged w s a c (xs ++ ys) (PutsAll t v)
has-append w s a b c xs ys t u v h k = record {
  answers = h.answers ++ k.answers;
  staged = h.staged ++ k.staged;
  gives = gives-join w s a b c h.answers k.answers h.gives k.gives;
  each = staged-append xs ys h.answers k.answers h.staged k.staged h.each k.each;
  put = puts-append t u v h.staged k.staged h.put k.put;
}

front-append : (xs ys zs rest : List InputFile) (answers more last : List Given) (copies : List FileOut) → AreStaged xs answers copies → IsFront ys rest more last → IsFront (xs ++ (ys ++ zs)) (rest ++ zs) (answers ++ more) last
front-append xs ys zs rest answers more last copies h f = record {
  front = xs ++ f.front;
  read = answers ++ f.read;
  staged = copies ++ f.staged;
  files_are = ap (λ s. xs ++ (s ++ zs)) f.files_are ∙ ap (λ s. xs ++ s) (append_assoc f.front rest zs) ∙ sym (append_assoc xs f.front (rest ++ zs));
  answers_are = ap (λ s. answers ++ s) f.answers_are ∙ sym (append_assoc answers f.read last);
  each = staged-append xs f.front answers f.read copies f.staged h f.each;
}

next-none : (rest : List InputFile) (last : List Given) → last ≡ [] → IsNextRead rest last
next-none [] last e = e
next-none (file ∷ rest) last e = inl e

next-append : (rest zs : List InputFile) (last : List Given) → IsNextRead rest last → IsNextRead (rest ++ zs) last
next-append [] zs last h = next-none zs last h
next-append (file ∷ rest) zs last h = h

cause-append : (xs ys zs : List InputFile) (answers more : List Given) (copies : List FileOut) (cause : Cause) → AreStaged xs answers copies → IsStageCause ys more cause → IsStageCause (xs ++ (ys ++ zs)) (answers ++ more) cause
cause-append xs ys zs answers more copies (BenchFault step) h k = (
  k.0,
  record {
    file = k.1.file;
    rest = k.1.rest ++ zs;
    bytes = k.1.bytes;
    front = front-append xs ys zs (k.1.file ∷ k.1.rest) answers more (read_of k.1.file k.1.bytes ∷ []) copies h k.1.front;
    digest_is = k.1.digest_is;
  },
)
cause-append xs ys zs answers more copies (InputChanged input) h k = record {
  file = k.file;
  rest = k.rest ++ zs;
  last = k.last;
  front = front-append xs ys zs (k.file ∷ k.rest) answers more k.last copies h k.front;
  change = k.change;
}
cause-append xs ys zs answers more copies (SourceFault path) h k = record {
  file = k.file;
  rest = k.rest ++ zs;
  front = front-append xs ys zs (k.file ∷ k.rest) answers more [] copies h k.front;
  path_is = k.path_is;
}
cause-append xs ys zs answers more copies (OutputMissing path) h k = absurd k
cause-append xs ys zs answers more copies (OutputTooLarge limit n) h k = absurd k
cause-append xs ys zs answers more copies (Stopped decision) h k = absurd k
cause-append xs ys zs answers more copies NoMemory h k = record {
  rest = k.rest ++ zs;
  last = k.last;
  front = front-append xs ys zs k.rest answers more k.last copies h k.front;
  next = next-append k.rest zs k.last k.next;
}

-- a list around one of its elements
split-at : {A : Type 0} (xs : List A) (i : ℕ) (x : A) → i < length xs → x ≡ get_or xs i x → xs ≡ take i xs ++ x ∷ drop (suc i) xs
split-at xs i x h e = sym (take-append-drop i xs) ∙ ap (λ s. take i xs ++ s) (drop-cons xs i x h) ∙ ap (λ y. take i xs ++ y ∷ drop (suc i) xs) (sym e)

-- the files up to an index, and the one there
pub has-more : {T W : Type 0} (w : world.Ghosts W) (s : sources.Ghosts T W) (a b c : T) (files : List InputFile) (i : ℕ) (file : InputFile) (t u v : Option Tree)
    → i < length files → file ≡ get_or files i file
    → HasStaged w s a b (take i files) (PutsAll t u) → HasStaged w s b c (file ∷ []) (PutsAll u v)
    → HasStaged w s a c (take (i + 1) files) (PutsAll t v)
has-more w s a b c files i file t u v within e h k =
    let more : take i files ++ file ∷ [] ≡ take (i + 1) files = ap (λ f. take i files ++ f ∷ []) e ∙ sym (take_more files i file within) in
    subst (λ fs. HasStaged w s a c fs (PutsAll t v)) more
    (has-append w s a b c (take i files) (file ∷ []) t u v h k)

-- the file at an index isn't staged, after those before it
pub failed-at : {T W : Type 0} (w : world.Ghosts W) (s : sources.Ghosts T W) (a b c : T) (files : List InputFile) (i : ℕ) (file : InputFile) (IsPut : List FileOut → Type 0) (cause : Cause)
    → i < length files → file ≡ get_or files i file
    → HasStaged w s a b (take i files) IsPut
    → HasFailedStaging w s b c (IsStageCause (file ∷ [])) cause
    → HasFailedStaging w s a c (IsStageCause files) cause
failed-at w s a b c files i file IsPut cause within e h k = record {
  answers = h.answers ++ k.answers;
  gives = gives-join w s a b c h.answers k.answers h.gives k.gives;
  caused = subst (λ fs. IsStageCause fs (h.answers ++ k.answers) cause) (sym (split-at files i file within e))
      (cause-append (take i files) (file ∷ []) (drop (suc i) files) h.answers k.answers h.staged cause h.each k.caused);
}

-- ---- what the staged files are

same-file : (x : FileOut) (file : InputFile) (bytes : List ℕ) → x.path ≡ file.path → x.bytes ≡ bytes → x.executable ≡ file.executable → x ≡ copy_of file bytes
same-file x file bytes p b m =
    ap (λ q. record { path = q; bytes = x.bytes; executable = x.executable }) p
    ∙ ap (λ q. record { path = file.path; bytes = q; executable = x.executable }) b
    ∙ ap (λ q. record { path = file.path; bytes = bytes; executable = q }) m

-- staged files have the contents that the world has under their stamps
pub staged-content : (content : List ℕ → Stamp → List ℕ) (files : List InputFile) (answers : List Given) (staged : List FileOut) → AreStaged files answers staged → All (HasContent content) answers → staged ≡ map (world_copy content) files
staged-content content [] [] [] h all = refl
staged-content content (file ∷ files) (a ∷ answers) (c ∷ copies) h all =
    let was : HasContent content (read_of file c.bytes) = subst (HasContent content) h.0.read (All-head (HasContent content) a answers all) in
    ap (λ x. x ∷ copies) (same-file c file (content file.path file.stamp) h.0.path_is was h.0.mark_is)
    ∙ ap (λ xs. world_copy content file ∷ xs) (staged-content content files answers copies h.1 (All-tail (HasContent content) a answers all))
staged-content content [] [] (c ∷ copies) h all = absurd h
staged-content content [] (a ∷ answers) staged h all = absurd h
staged-content content (file ∷ files) [] staged h all = absurd h
staged-content content (file ∷ files) (a ∷ answers) [] h all = absurd h

-- staged files are those that the source tree lists
pub staged-listed : (entries : List SourceEntry) (files : List InputFile) (answers : List Given) (staged : List FileOut) → AreStaged files answers staged → All (IsAnswerOf entries) answers → staged ≡ map (listed_copy entries) files
staged-listed entries [] [] [] h all = refl
staged-listed entries (file ∷ files) (a ∷ answers) (c ∷ copies) h all =
    let was : IsAnswerOf entries (read_of file c.bytes) = subst (IsAnswerOf entries) h.0.read (All-head (IsAnswerOf entries) a answers all) in
    ap (λ x. x ∷ copies) (same-file c file (entry_at file.path entries).bytes h.0.path_is was.bytes_are h.0.mark_is)
    ∙ ap (λ xs. listed_copy entries file ∷ xs) (staged-listed entries files answers copies h.1 (All-tail (IsAnswerOf entries) a answers all))
staged-listed entries [] [] (c ∷ copies) h all = absurd h
staged-listed entries [] (a ∷ answers) staged h all = absurd h
staged-listed entries (file ∷ files) [] staged h all = absurd h
staged-listed entries (file ∷ files) (a ∷ answers) [] h all = absurd h

not-different : (entries : List SourceEntry) (file : InputFile) (look : Look) (bytes : List ℕ) (first second : Seen) → Differ file look bytes first second → IsAnswerOf entries (given_bytes file.path look bytes) → IsAsListed entries file → ⊥
not-different entries file look bytes first second (inl d) was there = d.0 (was.look_is ∙ there.look_is)
not-different entries file look bytes first second (inr d) was there = d.1 (ap digest_of was.bytes_are ∙ there.digest_is)

-- a file that is as listed doesn't change
pub not-changed : (entries : List SourceEntry) (files : List InputFile) (answers : List Given) (input : ChangedInput) → IsChangedInput files answers input → All (IsAnswerOf entries) answers → All (IsAsListed entries) files → ⊥
not-changed entries files answers input h all there =
    let given : Given = given_bytes h.file.path h.change.look h.change.bytes in
    let whole : answers ≡ h.front.read ++ given ∷ [] = h.front.answers_are ∙ ap (λ s. h.front.read ++ s) h.change.read in
    let among : Contains answers given = subst (λ s. Contains s given) (sym whole) (Contains-append_right h.front.read (given ∷ []) given (0, omega arith, refl)) in
    let one : Contains files h.file = subst (λ s. Contains s h.file) (sym h.front.files_are) (Contains-append_right h.front.front (h.file ∷ h.rest) h.file (0, omega arith, refl)) in
    not-different entries h.file h.change.look h.change.bytes input.first input.second h.change.differ
    (All-contains (IsAnswerOf entries) answers given all among) (All-contains (IsAsListed entries) files h.file there one)
