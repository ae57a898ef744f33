-- One publication more.
use Rattle.std.proofs.Common.{◌≡◌, ℕ, ◌+◌, ◌-◌, ◌<◌, ◌≤◌, ◌^◌, Bool, true, false, cond, List, [], ◌∷◌, ◌++◌, Option, None, Some, arith, count_by, length, length-append, ltb, ltb-true, min, refl, ap, sym, take, ◌∙◌}
use Rattle.std.proofs.lemmas.List.{length-map}
use Rattle.std.proofs.lemmas.List.Sums.{count_by-le-length, sum_by-append}
use Rattle.std.specs.List.{take-map}
use Rattle.rx_world.specs.declared.outcomes.FileOut.{FileOut}
use Rattle.rx_world.specs.declared.outcomes.Listed.{Listed}
use Rattle.rx_world.specs.Causes.{Rose}
use Rattle.rx_world.specs.Files.{all_placed_by}
use Rattle.rx_world.specs.Outcomes.{listed, listing}
use Rattle.rx_world.specs.Places.{Places}
use Rattle.rx_board.specs.declared.journal.Entry.{Entry}
use Rattle.rx_board.specs.Board.{IsKept}
use Rattle.rx_board.specs.Journal.{AreNumberedFrom, IsKeptBy, count_short, journal_leaves, placed_files}
use Rattle.rx_board.specs.Placing.{PlacesAll}
use Rattle.rx_world.proofs.PlacedBy.{all_placed_by-append, map-all_placed_by}

-- one file more
pub places_all-more : (old mid new : Option (List FileOut)) (files : List FileOut) (file : FileOut) → PlacesAll old mid files → Places mid new file.path file.bytes file.executable → PlacesAll old new (files ++ file ∷ [])
places_all-more None mid new files file before now = tt
places_all-more (Some xs) None new files file before now = absurd before
places_all-more (Some xs) (Some ys) None files file before now = absurd now
places_all-more (Some xs) (Some ys) (Some zs) files file before now =
    now ∙ ap (all_placed_by (λ f. f.path) (file ∷ [])) before ∙ sym (all_placed_by-append (λ f. f.path) files file xs)

-- no file
pub places_all-none : (told : Option (List FileOut)) → PlacesAll told told []
places_all-none None = tt
places_all-none (Some xs) = refl

journal_leaves-append : (entries : List Entry) (entry : Entry) (held : List Listed) → journal_leaves (entries ++ entry ∷ []) held ≡ all_placed_by (λ file. file.path) (placed_files entry) (journal_leaves entries held)
journal_leaves-append [] entry held = refl
journal_leaves-append (e ∷ es) entry held = journal_leaves-append es entry (all_placed_by (λ file. file.path) (placed_files e) held)

-- the journal keeps the place
pub kept-more : (opening mid new : Option (List FileOut)) (journal : List Entry) (entry : Entry) (files : List FileOut) → IsKeptBy opening mid journal → PlacesAll mid new (take entry.placed files) → entry.files ≡ listing files → IsKeptBy opening new (journal ++ entry ∷ [])
kept-more None mid new journal entry files before now same = tt
kept-more (Some xs) None new journal entry files before now same = absurd before
kept-more (Some xs) (Some ys) None journal entry files before now same = absurd now
kept-more (Some xs) (Some ys) (Some zs) journal entry files before now same =
    ap listing now
    ∙ map-all_placed_by listed (λ file. file.path) (take entry.placed files) ys
    ∙ ap (λ s. all_placed_by (λ file. file.path) s (listing ys)) (sym (take-map listed entry.placed files) ∙ ap (take entry.placed) (sym same))
    ∙ ap (all_placed_by (λ file. file.path) (placed_files entry)) before
    ∙ sym (journal_leaves-append journal entry (listing xs))

-- its number is the next one
pub numbered-more : (number : ℕ) (journal : List Entry) (entry : Entry) → AreNumberedFrom number journal → entry.number ≡ length journal + number → AreNumberedFrom number (journal ++ entry ∷ [])
numbered-more number [] entry before next = (omega (arith, next), tt)
numbered-more number (e ∷ es) entry before next = (before.0, numbered-more (number + 1) es entry before.1 (omega (arith, next)))

count_case : (b : Bool) (count len before now : ℕ) → count ≤ len → len + 1 < 2 ^ 64 → count ≤ before → before ≤ now → (b ≡ true → Rose before now) → count + (0 + cond b 1 0) ≤ now
count_case true count len before now short fits known later failed = let rose : min (before + 1) (2 ^ 64 - 1) ≤ now = failed refl in omega (arith, short, fits, known, rose)
count_case false count len before now short fits known later failed = omega (arith, known, later)

-- no more entries are short than the place had faults
short-more : (journal : List Entry) (entry : Entry) (before now : ℕ) → length journal + 1 < 2 ^ 64 → count_short journal ≤ before → before ≤ now → (entry.placed < length entry.files → Rose before now) → count_short (journal ++ entry ∷ []) ≤ now
short-more journal entry before now fits known later failed =
    let is_short = λ (e : Entry). ltb e.placed (length e.files) in
    rw (sum_by-append (λ (e : Entry). cond (is_short e) 1 0) journal (entry ∷ []))
    (count_case (is_short entry) (count_by is_short journal) (length journal) before now (count_by-le-length is_short journal) fits known later (λ b. failed (ltb-true entry.placed (length entry.files) b)))

-- a board stays one
pub kept-one_more : (opening mid new : Option (List FileOut)) (before now : ℕ) (journal : List Entry) (limit : ℕ) (entry : Entry) (files : List FileOut) → IsKept opening mid before journal limit → PlacesAll mid new (take entry.placed files) → entry.files ≡ listing files → entry.number ≡ length journal + 1 → length journal < limit → length journal + 1 < 2 ^ 64 → before ≤ now → (entry.placed < length files → Rose before now) → IsKept opening new now (journal ++ entry ∷ []) limit
kept-one_more opening mid new before now journal limit entry files board placed same next room fits later failed = record {
  kept = kept-more opening mid new journal entry files board.kept placed same;
  numbered = numbered-more 1 journal entry board.numbered next;
  within = rw length-append (omega (arith, room));
  short = short-more journal entry before now fits board.short later (λ fewer. failed (rw (same, length-map) at fewer));
}
