-- Lists of paths that have the same members mean the same.
use Rattle.std.proofs.Common.{◌≡◌, ℕ, Bool, true, false, not, ◌&&◌, List, [], ◌∷◌, ◌++◌, drop, filter, map, Option, Some, None, Result, IfOk, refl, sym, ap, ◌∙◌, subst, cond}
use Rattle.std.specs.List.{find}
use Rattle.std.specs.Option.{option_map}
use Rattle.rx_base.specs.Paths.{is_below}
use Rattle.rx_base.specs.SortedPaths.{HasSameMembers}
use Rattle.rx_world.specs.declared.commands.Command.{Command}
use Rattle.rx_cppflags.specs.declared.meanings.Meaning.{Meaning}
use Rattle.rx_cppflags.specs.declared.meanings.Meaning.TheVariants.{Made}
use Rattle.rx_cppflags.specs.declared.readings.Reading.{Reading}
use Rattle.rx_cppflags.specs.Places.{is_writable, kept, path_from, path_of}
use Rattle.rx_cppflags.specs.Rows.{Row, row_for, own_value, takes_next}
use Rattle.rx_cppflags.specs.Pieces.{Saying, said_by, saying, sayings_after, uses_next, with_next}
use Rattle.rx_cppflags.specs.Found.{outputs_of}
use Rattle.rx_cppflags.specs.LocalOutputs.{apart_paths}
use Rattle.rx_cppflags.specs.Made.{made_texts, with_made}
use Rattle.rx_cppflags.specs.Outside.{first_outside, is_apart, is_apart_output, is_in_table, outside_of}
use Rattle.rx_cppflags.specs.Readings.{all_said, reading_from, reading_of}
use Rattle.rx_base.proofs.Members.{list_any-same_members}

-- ---- inputs

kept_same : (test other : List ℕ → Bool) (o : Option (List ℕ)) → ((path : List ℕ) → test path ≡ other path) → kept test o ≡ kept other o
kept_same test other None e = refl
kept_same test other (Some path) e = rw (e path) refl

path_same : (d : List ℕ) (xs ys : List (List ℕ)) (meaning : Meaning) (text : List ℕ) → HasSameMembers xs ys → path_of d xs meaning text ≡ path_of d ys meaning text
path_same d xs ys meaning text same =
    rw (kept_same (is_writable d xs) (is_writable d ys) (path_from d text) (λ path. ap (λ b. is_below path d && not b) (list_any-same_members (λ input. is_below input path) xs ys same))) refl

saying_same : (d : List ℕ) (xs ys : List (List ℕ)) (meaning : Meaning) (text word : List ℕ) → HasSameMembers xs ys → saying d xs meaning text word ≡ saying d ys meaning text word
saying_same d xs ys meaning text word same =
    ap (λ (path : Option (List ℕ)). let s : Saying = record { meaning = meaning; word = word; text = text; path = path } in s) (path_same d xs ys meaning text same)

next_same : (d : List ℕ) (xs ys : List (List ℕ)) (meaning : Meaning) (word : List ℕ) (others : List (List ℕ)) → HasSameMembers xs ys → with_next d xs meaning word others ≡ with_next d ys meaning word others
next_same d xs ys meaning word [] same = refl
next_same d xs ys meaning word (next ∷ others) same = saying_same d xs ys meaning next next same

said_same : (d : List ℕ) (xs ys : List (List ℕ)) (row : Option Row) (word : List ℕ) (others : List (List ℕ)) → HasSameMembers xs ys → said_by d xs row word others ≡ said_by d ys row word others
said_same d xs ys None word others same = refl
said_same d xs ys (Some row) word others same =
    ap (λ (s : Saying). cond (takes_next word row) s (saying d xs row.meaning (own_value word row) word)) (next_same d xs ys row.meaning word others same)
    ∙ ap (λ (s : Saying). cond (takes_next word row) (with_next d ys row.meaning word others) s) (saying_same d xs ys row.meaning (own_value word row) word same)

sayings_same : (d : List ℕ) (xs ys : List (List ℕ)) (is_value : Bool) (words : List (List ℕ)) → HasSameMembers xs ys → sayings_after d xs is_value words ≡ sayings_after d ys is_value words
unfolding sayings_after
sayings_same d xs ys true [] same = refl
sayings_same d xs ys false [] same = refl
sayings_same d xs ys true (word ∷ others) same = sayings_same d xs ys false others same
sayings_same d xs ys false (word ∷ others) same =
    let first : said_by d xs (row_for word) word others ≡ said_by d ys (row_for word) word others = said_same d xs ys (row_for word) word others same in
    let rest = sayings_same d xs ys (uses_next (row_for word) word) others same in
    ap (λ (s : Saying). s ∷ sayings_after d xs (uses_next (row_for word) word) others) first
    ∙ ap (λ (ss : List Saying). said_by d ys (row_for word) word others ∷ ss) rest

made_same : (d : List ℕ) (xs ys texts : List (List ℕ)) → HasSameMembers xs ys → map (λ text. saying d xs Made text text) texts ≡ map (λ text. saying d ys Made text text) texts
made_same d xs ys [] same = refl
made_same d xs ys (text ∷ texts) same = rw (saying_same d xs ys Made text text same, made_same d xs ys texts same) refl

all_same : (d : List ℕ) (xs ys words : List (List ℕ)) → HasSameMembers xs ys → all_said d xs words ≡ all_said d ys words
all_same d xs ys words same =
    ap (λ (said : List Saying). with_made d xs said) (sayings_same d xs ys false words same)
    ∙ (let said : List Saying = sayings_after d ys false words in ap (λ (sides : List Saying). said ++ sides) (made_same d xs ys (made_texts said) same))

-- a command's reading asks only which inputs there are
pub reading_same : (command : Command) (xs ys : List (List ℕ)) → HasSameMembers xs ys → reading_of command xs ≡ reading_of command ys
unfolding reading_of
reading_same command xs ys same =
    ap (λ (said : List Saying). reading_from command said) (all_same command.working_directory xs ys (drop 1 command.words) same)

-- ---- outputs

apart_same : (xs ys : List (List ℕ)) (o : Option (List ℕ)) → HasSameMembers xs ys → is_apart_output xs o ≡ is_apart_output ys o
apart_same xs ys None same = refl
apart_same xs ys (Some path) same = ap not (list_any-same_members _ xs ys same)

passing_same : (test other : List ℕ → Bool) (paths : List (List ℕ)) → ((path : List ℕ) → test path ≡ other path) → filter test paths ≡ filter other paths
passing_same test other [] e = refl
passing_same test other (path ∷ paths) e = rw (e path, passing_same test other paths e) refl

-- which paths are apart asks only which paths there are
pub told_apart : {E : Type 0} (outputs paths all sorted : List (List ℕ)) (result : Result (List (List ℕ)) E) → all ≡ outputs ++ paths → HasSameMembers all sorted
    → IfOk result (λ apart. apart ≡ filter (is_apart sorted) paths) → IfOk result (λ apart. apart ≡ apart_paths outputs paths)
told_apart outputs paths all sorted result a same told =
    let given : filter (is_apart sorted) paths ≡ apart_paths outputs paths =
    passing_same (is_apart sorted) (is_apart all) paths (λ path. sym (ap not (list_any-same_members _ all sorted same)))
    ∙ ap (λ (others : List (List ℕ)). filter (is_apart others) paths) a in
    subst (λ (left : List (List ℕ)). IfOk result (λ apart. apart ≡ left)) given told

find_same : (test other : Saying → Bool) (said : List Saying) → ((s : Saying) → test s ≡ other s) → find (λ s. not (test s)) said ≡ find (λ s. not (other s)) said
find_same test other [] e = refl
find_same test other (s ∷ said) e = rw (e s, find_same test other said e) refl

table_same : (all : List Saying) (xs ys : List (List ℕ)) (s : Saying) → HasSameMembers xs ys → is_in_table all xs s ≡ is_in_table all ys s
table_same all xs ys s same = rw (apart_same xs ys s.path same) refl

-- which word is the first outside asks only which outputs there are
pub outside_same : (all : List Saying) (xs ys : List (List ℕ)) (said : List Saying) → HasSameMembers xs ys → first_outside all xs said ≡ first_outside all ys said
outside_same all xs ys said same =
    ap (λ (found : Option Saying). option_map (λ s. s.word) found)
    (find_same (is_in_table all xs) (is_in_table all ys) said (λ s. table_same all xs ys s same))

pub told_outside : (outputs all sorted slice : List (List ℕ)) (said : List Saying) (word : Option (List ℕ)) → all ≡ outputs ++ outputs_of said → HasSameMembers all sorted → slice ≡ sorted
    → word ≡ first_outside said slice said → word ≡ outside_of outputs said
told_outside outputs all sorted slice said word a same s w =
    w ∙ ap (λ (given : List (List ℕ)). first_outside said given said) s ∙ sym (outside_same said all sorted said same)
    ∙ ap (λ (given : List (List ℕ)). first_outside said given said) a

pub read_again : {E : Type 0} (command : Command) (inputs copy sorted slice : List (List ℕ)) (result : Result Reading E) → copy ≡ inputs → HasSameMembers copy sorted → slice ≡ sorted
    → IfOk result (λ reading. reading ≡ reading_of command slice) → IfOk result (λ reading. reading ≡ reading_of command inputs)
read_again command inputs copy sorted slice result a same s told =
    let given : reading_of command slice ≡ reading_of command inputs =
    ap (reading_of command) s ∙ sym (reading_same command copy sorted same) ∙ ap (reading_of command) a in
    subst (λ (r : Reading). IfOk result (λ reading. reading ≡ r)) given told
