-- At each path, what a journal leaves is the last file that it placed there.
use Rattle.std.proofs.Common.{◌≡◌, ℕ, Bool, true, false, cond, List, [], ◌∷◌, Option, None, Some, Ordering, Less, Equal, Greater, bytes_eq, is_eq, nat_cmp, true≢false, refl, ap, sym, ◌∙◌}
use Rattle.std.specs.Ordering.{match_ordering}
use Rattle.std.specs.Option.{option_or}
use Rattle.std.specs.Cmp.Lexicographic.{slice_cmp}
use Rattle.std.proofs.lemmas.Map.Text.{is_eq-slice_cmp}
use Rattle.std.proofs.lemmas.Slice.Eq.{bytes_eq-Decides}
use Rattle.rx_world.specs.declared.outcomes.FileOut.{FileOut}
use Rattle.rx_world.specs.declared.outcomes.Listed.{Listed}
use Rattle.rx_world.specs.Files.{all_placed_by, placed_by}
use Rattle.rx_world.specs.Outcomes.{listing}
use Rattle.rx_board.specs.declared.journal.Entry.{Entry}
use Rattle.rx_board.specs.Journal.{HoldsLast, IsKeptBy, journal_leaves, last_listed_at, last_placed_at, listed_at, placed_files}

cond-twice : {A : Type 0} (b : Bool) (x y z : A) → cond b x z ≡ cond b x (cond b y z)
cond-twice true x y z = refl
cond-twice false x y z = refl

cond-apart : {A : Type 0} (b c : Bool) (x y z : A) → (b ≡ true → c ≡ true → ⊥) → cond c y (cond b x z) ≡ cond b x (cond c y z)
cond-apart true true x y z h = absurd (h refl refl)
cond-apart true false x y z h = refl
cond-apart false true x y z h = refl
cond-apart false false x y z h = refl

listed_at-placed_case : (path : List ℕ) (o : Ordering) (new item : Listed) (items rest : List Listed) → is_eq o ≡ bytes_eq new.path item.path → listed_at path rest ≡ cond (bytes_eq new.path path) (Some new) (listed_at path items) → listed_at path (match_ordering o (new ∷ item ∷ items) (new ∷ items) (item ∷ rest)) ≡ cond (bytes_eq new.path path) (Some new) (listed_at path (item ∷ items))
listed_at-placed_case path Less new item items rest test h = refl
listed_at-placed_case path Equal new item items rest test h =
    let same : new.path ≡ item.path = (bytes_eq-Decides new.path item.path).0 (sym test) in
    cond-twice (bytes_eq new.path path) (Some new) (Some item) (listed_at path items)
    ∙ ap (λ p. cond (bytes_eq new.path path) (Some new) (cond (bytes_eq p path) (Some item) (listed_at path items))) same
listed_at-placed_case path Greater new item items rest test h =
    ap (λ found. cond (bytes_eq item.path path) (Some item) found) h
    ∙ cond-apart (bytes_eq new.path path) (bytes_eq item.path path) (Some new) (Some item) (listed_at path items)
    (λ b c. true≢false (sym ((bytes_eq-Decides new.path item.path).1 ((bytes_eq-Decides new.path path).0 b ∙ sym ((bytes_eq-Decides item.path path).0 c))) ∙ sym test))

listed_at-placed_by : (path : List ℕ) (new : Listed) (items : List Listed) → listed_at path (placed_by (λ file. file.path) new items) ≡ cond (bytes_eq new.path path) (Some new) (listed_at path items)
listed_at-placed_by path new [] = refl
listed_at-placed_by path new (item ∷ items) =
    listed_at-placed_case path (slice_cmp nat_cmp new.path item.path) new item items (placed_by (λ file. file.path) new items) (is_eq-slice_cmp new.path item.path) (listed_at-placed_by path new items)

option_or-assoc : {A : Type 0} (a b c : Option A) → option_or a (option_or b c) ≡ option_or (option_or a b) c
option_or-assoc None b c = refl
option_or-assoc (Some x) b c = refl

option_or-cond : {A : Type 0} (a : Option A) (b : Bool) (x : A) (c : Option A) → option_or a (cond b (Some x) c) ≡ option_or (option_or a (cond b (Some x) None)) c
option_or-cond None true x c = refl
option_or-cond None false x c = refl
option_or-cond (Some y) b x c = refl

listed_at-all_placed_by : (path : List ℕ) (files held : List Listed) → listed_at path (all_placed_by (λ file. file.path) files held) ≡ option_or (last_listed_at path files) (listed_at path held)
listed_at-all_placed_by path [] held = refl
listed_at-all_placed_by path (file ∷ files) held =
    listed_at-all_placed_by path files (placed_by (λ f. f.path) file held)
    ∙ ap (option_or (last_listed_at path files)) (listed_at-placed_by path file held)
    ∙ option_or-cond (last_listed_at path files) (bytes_eq file.path path) file (listed_at path held)

listed_at-journal_leaves : (path : List ℕ) (entries : List Entry) (held : List Listed) → listed_at path (journal_leaves entries held) ≡ option_or (last_placed_at path entries) (listed_at path held)
listed_at-journal_leaves path [] held = refl
listed_at-journal_leaves path (entry ∷ entries) held =
    listed_at-journal_leaves path entries (all_placed_by (λ file. file.path) (placed_files entry) held)
    ∙ ap (option_or (last_placed_at path entries)) (listed_at-all_placed_by path (placed_files entry) held)
    ∙ option_or-assoc (last_placed_at path entries) (last_listed_at path (placed_files entry)) (listed_at path held)

pub holds_last : (opening contents : Option (List FileOut)) (journal : List Entry) → IsKeptBy opening contents journal → HoldsLast opening contents journal
holds_last None contents journal h = tt
holds_last (Some xs) None journal h = absurd h
holds_last (Some xs) (Some ys) journal h = λ path. ap (listed_at path) h ∙ listed_at-journal_leaves path journal (listing xs)
