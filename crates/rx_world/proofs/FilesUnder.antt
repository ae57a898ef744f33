-- The files that a list of paths has at or below a path: what stands there by the list, all of it, in order.
use Rattle.std.proofs.Common.{◌≡◌, ℕ, ◌+◌, ◌||◌, Bool, true, false, cond, List, [], ◌∷◌, Ordering, Less, Equal, Greater, nat_cmp, bytes_eq, filter, map, take, All, refl, sym, ap, subst, ◌∙◌, inl, inr, true≢false}
use Rattle.std.specs.Prelude.{Option, None, Some, IfSome}
use Rattle.std.specs.List.{AllByRecursion}
use Rattle.std.specs.List.Sorted.{IsStrictlySortedBy}
use Rattle.std.specs.Ordering.{is_eq, match_ordering, ordering_reverse}
use Rattle.std.specs.Cmp.Lexicographic.{slice_cmp}
use Rattle.std.proofs.lemmas.Cmp.{nat_list_cmp_total, tied_itself}
use Rattle.std.proofs.lemmas.List.Elements.{All-filter, All-from_recursion, All-map, All-take, All-weaker}
use Rattle.std.proofs.lemmas.Map.Text.{is_eq-slice_cmp}
use Rattle.std.proofs.lemmas.Slice.Eq.{bytes_eq-Decides}
use Rattle.rx_base.specs.Paths.{is_below}
use Rattle.rx_base.specs.SortedPaths.{AreSorted}
use Rattle.rx_world.specs.declared.looks.Look.{Look}
use Rattle.rx_world.specs.declared.sources.Found.{Found}
use Rattle.rx_world.specs.declared.sources.Given.{Given}
use Rattle.rx_world.specs.declared.sources.SourceEntry.{SourceEntry}
use Rattle.rx_world.specs.Answers.{IsAnswerOf}
use Rattle.rx_world.specs.Files.{first_placed_by, placed_by}
use Rattle.rx_world.specs.Sources.{Lists, entry_at, files_under, given_all, given_look, is_file}
use Rattle.rx_base.proofs.Members.{All-among, Among}
use Rattle.rx_world.proofs.Among.{among-filter, among-from_filter}

abbrev path_of : SourceEntry → List ℕ
path_of entry = entry.path

abbrev ordered : List SourceEntry → List SourceEntry
ordered entries = first_placed_by path_of entries

-- ---- orders of paths

same_path : (x y : List ℕ) → slice_cmp nat_cmp x y ≡ Equal → x ≡ y
same_path x y e = (bytes_eq-Decides x y).0 (sym (is_eq-slice_cmp x y) ∙ ap is_eq e)

turned : (x y : List ℕ) → slice_cmp nat_cmp x y ≡ Greater → slice_cmp nat_cmp y x ≡ Less
turned x y gt = nat_list_cmp_total.antisymm y x ∙ ap ordering_reverse gt

not_less_self : (x y : List ℕ) → slice_cmp nat_cmp x y ≡ Less → x ≡ y → ⊥
not_less_self x y lt e = let h : Less ≡ Equal = sym lt ∙ ap (slice_cmp nat_cmp x) (sym e) ∙ tied_itself nat_list_cmp_total x in cc h

not_greater_self : (x y : List ℕ) → slice_cmp nat_cmp x y ≡ Greater → x ≡ y → ⊥
not_greater_self x y gt e = let h : Greater ≡ Equal = sym gt ∙ ap (slice_cmp nat_cmp x) (sym e) ∙ tied_itself nat_list_cmp_total x in cc h

differs : (x y : List ℕ) → (x ≡ y → ⊥) → bytes_eq x y ≡ false
differs x y ne = elim (bytes_eq x y) as (λ b. bytes_eq x y ≡ b → b ≡ false) [ true ↦ λ t. absurd (ne ((bytes_eq-Decides x y).0 t)) | false ↦ λ t. refl ] refl

-- ---- the first entry at a path

swapped : {T : Type 0} (bi bn : Bool) (i n r : T) → (bi ≡ true → bn ≡ true → ⊥) → cond bi i (cond bn n r) ≡ cond bn n (cond bi i r)
swapped true true i n r h = absurd (h refl refl)
swapped true false i n r h = refl
swapped false true i n r h = refl
swapped false false i n r h = refl

covered : {T : Type 0} (bn bi : Bool) (n i r : T) → bi ≡ bn → cond bn n r ≡ cond bn n (cond bi i r)
covered true bi n i r e = refl
covered false true n i r e = absurd (true≢false e)
covered false false n i r e = refl

at_case : (o : Ordering) (path : List ℕ) (new item : SourceEntry) (items rest : List SourceEntry) → slice_cmp nat_cmp new.path item.path ≡ o
    → entry_at path rest ≡ cond (bytes_eq new.path path) new (entry_at path items)
    → entry_at path (match_ordering o (new ∷ item ∷ items) (new ∷ items) (item ∷ rest)) ≡ cond (bytes_eq new.path path) new (cond (bytes_eq item.path path) item (entry_at path items))
at_case Less path new item items rest e h = refl
at_case Equal path new item items rest e h = covered (bytes_eq new.path path) (bytes_eq item.path path) new item (entry_at path items) (ap (λ p. bytes_eq p path) (sym (same_path new.path item.path e)))
at_case Greater path new item items rest e h =
    ap (λ r. cond (bytes_eq item.path path) item r) h
    ∙ swapped (bytes_eq item.path path) (bytes_eq new.path path) item new (entry_at path items)
    (λ i n. not_greater_self new.path item.path e ((bytes_eq-Decides new.path path).0 n ∙ sym ((bytes_eq-Decides item.path path).0 i)))

at_placed : (path : List ℕ) (new : SourceEntry) (items : List SourceEntry) → entry_at path (placed_by path_of new items) ≡ cond (bytes_eq new.path path) new (entry_at path items)
at_placed path new [] = refl
at_placed path new (item ∷ items) = at_case (slice_cmp nat_cmp new.path item.path) path new item items (placed_by path_of new items) refl (at_placed path new items)

-- the order leaves at each path what the list has there
pub entry_at-ordered : (path : List ℕ) (entries : List SourceEntry) → entry_at path (ordered entries) ≡ entry_at path entries
entry_at-ordered path [] = refl
entry_at-ordered path (entry ∷ entries) =
    at_placed path entry (ordered entries) ∙ ap (λ r. cond (bytes_eq entry.path path) entry r) (entry_at-ordered path entries)

-- ---- the order

abbrev Above : List ℕ → List SourceEntry → Type 0
Above path items = AllByRecursion (λ item. slice_cmp nat_cmp path item.path ≡ Less) items

abbrev InOrder : List SourceEntry → Type 0
InOrder [] = Unit {0}
InOrder (item ∷ items) = Above item.path items × InOrder items

above_more : (x y : List ℕ) (items : List SourceEntry) → slice_cmp nat_cmp x y ≡ Less → Above y items → Above x items
above_more x y [] lt h = tt
above_more x y (item ∷ items) lt h = (nat_list_cmp_total.trans x y item.path lt h.0, above_more x y items lt h.1)

lower_case : (o : Ordering) (x : List ℕ) (new item : SourceEntry) (items rest : List SourceEntry) → slice_cmp nat_cmp x new.path ≡ Less → Above x (item ∷ items) → Above x rest → Above x (match_ordering o (new ∷ item ∷ items) (new ∷ items) (item ∷ rest))
lower_case Less x new item items rest lt h r = (lt, h)
lower_case Equal x new item items rest lt h r = (lt, h.1)
lower_case Greater x new item items rest lt h r = (h.0, r)

lower : (x : List ℕ) (new : SourceEntry) (items : List SourceEntry) → slice_cmp nat_cmp x new.path ≡ Less → Above x items → Above x (placed_by path_of new items)
lower x new [] lt h = (lt, tt)
lower x new (item ∷ items) lt h = lower_case (slice_cmp nat_cmp new.path item.path) x new item items (placed_by path_of new items) lt h (lower x new items lt h.1)

order_case : (o : Ordering) (new item : SourceEntry) (items rest : List SourceEntry) → slice_cmp nat_cmp new.path item.path ≡ o → InOrder (item ∷ items)
    → (slice_cmp nat_cmp item.path new.path ≡ Less → Above item.path rest) → InOrder rest → InOrder (match_ordering o (new ∷ item ∷ items) (new ∷ items) (item ∷ rest))
order_case Less new item items rest e h low r = ((e, above_more new.path item.path items e h.0), h)
order_case Equal new item items rest e h low r = (subst (λ p. Above p items) (sym (same_path new.path item.path e)) h.0, h.1)
order_case Greater new item items rest e h low r = (low (turned new.path item.path e), r)

order_placed : (new : SourceEntry) (items : List SourceEntry) → InOrder items → InOrder (placed_by path_of new items)
order_placed new [] h = (tt, tt)
order_placed new (item ∷ items) h =
    order_case (slice_cmp nat_cmp new.path item.path) new item items (placed_by path_of new items) refl h
    (λ lt. lower item.path new items lt h.0) (order_placed new items h.1)

in_order : (entries : List SourceEntry) → InOrder (ordered entries)
in_order [] = tt
in_order (entry ∷ entries) = order_placed entry (ordered entries) (in_order entries)

above-filter_case : (b : Bool) (path : List ℕ) (item : SourceEntry) (items : List SourceEntry) → slice_cmp nat_cmp path item.path ≡ Less → Above path items → Above path (cond b (item ∷ items) items)
above-filter_case true path item items lt h = (lt, h)
above-filter_case false path item items lt h = h

above-filter : (p : SourceEntry → Bool) (path : List ℕ) (items : List SourceEntry) → Above path items → Above path (filter p items)
above-filter p path [] h = tt
above-filter p path (item ∷ items) h = above-filter_case (p item) path item (filter p items) h.0 (above-filter p path items h.1)

order-filter_case : (b : Bool) (item : SourceEntry) (items : List SourceEntry) → Above item.path items → InOrder items → InOrder (cond b (item ∷ items) items)
order-filter_case true item items a h = (a, h)
order-filter_case false item items a h = h

order-filter : (p : SourceEntry → Bool) (items : List SourceEntry) → InOrder items → InOrder (filter p items)
order-filter p [] h = tt
order-filter p (item ∷ items) h = order-filter_case (p item) item (filter p items) (above-filter p item.path items h.0) (order-filter p items h.1)

above-map : (path : List ℕ) (items : List SourceEntry) → Above path items → AllByRecursion (λ other. slice_cmp nat_cmp path other ≡ Less) (map path_of items)
above-map path [] h = tt
above-map path (item ∷ items) h = (h.0, above-map path items h.1)

order-map : (items : List SourceEntry) → InOrder items → IsStrictlySortedBy (slice_cmp nat_cmp) (map path_of items)
unfolding IsStrictlySortedBy
order-map [] h = tt
order-map (item ∷ items) h = (above-map item.path items h.0, order-map items h.1)

-- ---- each entry is the one at its path

itself_more : (item : SourceEntry) (others items : List SourceEntry) → Above item.path items → AllByRecursion (λ e. entry_at e.path others ≡ e) items → AllByRecursion (λ e. entry_at e.path (item ∷ others) ≡ e) items
itself_more item others [] a h = tt
itself_more item others (e ∷ items) a h = (rw (differs item.path e.path (not_less_self item.path e.path a.0)) h.0, itself_more item others items a.1 h.1)

itself : (items : List SourceEntry) → InOrder items → AllByRecursion (λ e. entry_at e.path items ≡ e) items
itself [] h = tt
itself (item ∷ items) h = (rw ((bytes_eq-Decides item.path item.path).1 refl) refl, itself_more item items items h.0 (itself items h.1))

listed_itself : (entries items : List SourceEntry) → AllByRecursion (λ e. entry_at e.path (ordered entries) ≡ e) items → AllByRecursion (λ e. entry_at e.path entries ≡ e) items
listed_itself entries [] h = tt
listed_itself entries (e ∷ items) h = (sym (entry_at-ordered e.path entries) ∙ h.0, listed_itself entries items h.1)

-- ---- the files at or below a path

-- each of them is what the list has at its path
pub under-is : (under : List ℕ) (entries : List SourceEntry) → All (λ e. entry_at e.path entries ≡ e) (files_under under entries)
under-is under entries =
    let P : SourceEntry → Type 0 = λ e. entry_at e.path entries ≡ e in
    let all = All-from_recursion P (ordered entries) (listed_itself entries (ordered entries) (itself (ordered entries) (in_order entries))) in
    All-filter (λ e. is_below e.path under || bytes_eq e.path under) P _ (All-filter (λ e. is_file e.look) P (ordered entries) all)

-- they are in the order of their paths
pub under-sorted : (under : List ℕ) (entries : List SourceEntry) → AreSorted (map path_of (files_under under entries))
under-sorted under entries = order-map (files_under under entries) (order-filter _ _ (order-filter _ _ (in_order entries)))

found_case : (b : Bool) (path : List ℕ) (item : SourceEntry) (items : List SourceEntry) → is_file (cond b item (entry_at path items)).look ≡ true
    → (is_file (entry_at path items).look ≡ true → Among (entry_at path items) items) → Among (cond b item (entry_at path items)) (item ∷ items)
found_case true path item items t rest = inl refl
found_case false path item items t rest = inr (rest t)

found : (path : List ℕ) (items : List SourceEntry) → is_file (entry_at path items).look ≡ true → Among (entry_at path items) items
found path [] t = absurd (true≢false (sym t))
found path (item ∷ items) t = found_case (bytes_eq item.path path) path item items t (found path items)

path_case : (b : Bool) (path : List ℕ) (entry : SourceEntry) (entries : List SourceEntry) → bytes_eq entry.path path ≡ b → (entry_at path entries).path ≡ path → (cond b entry (entry_at path entries)).path ≡ path
path_case true path entry entries t h = (bytes_eq-Decides entry.path path).0 t
path_case false path entry entries t h = h

pub entry_at-path : (path : List ℕ) (entries : List SourceEntry) → (entry_at path entries).path ≡ path
entry_at-path path [] = refl
entry_at-path path (entry ∷ entries) = path_case (bytes_eq entry.path path) path entry entries refl (entry_at-path path entries)

-- each file of the list that stands there is among them
pub under-has : (under path : List ℕ) (entries : List SourceEntry) → is_file (entry_at path entries).look ≡ true → (is_below path under || bytes_eq path under) ≡ true → Among (entry_at path entries) (files_under under entries)
under-has under path entries t here =
    let same = entry_at-ordered path entries in
    let is = entry_at-path path entries in
    let there = subst (λ e. Among e (ordered entries)) same (found path (ordered entries) (ap (λ (e : SourceEntry). is_file e.look) same ∙ t)) in
    among-filter (λ e. is_below e.path under || bytes_eq e.path under) (entry_at path entries) _ (among-filter (λ e. is_file e.look) (entry_at path entries) (ordered entries) there t)
    (subst (λ p. (is_below p under || bytes_eq p under) ≡ true) (sym is) here)

-- and nothing else
pub under-only : (under : List ℕ) (entry : SourceEntry) (entries : List SourceEntry) → Among entry (files_under under entries) → (is_file entry.look ≡ true) × ((is_below entry.path under || bytes_eq entry.path under) ≡ true)
under-only under entry entries a =
    let outer = among-from_filter (λ e. is_below e.path under || bytes_eq e.path under) entry _ a in
    let inner = among-from_filter (λ e. is_file e.look) entry (ordered entries) outer.0 in
    (inner.1, outer.1)

-- the answers of a list are those that the list has
pub list-is_right : (listed : Option (List SourceEntry)) (under : List ℕ) (most : ℕ) (found : List Found) → Lists listed under most found → IfSome listed (λ entries. All (IsAnswerOf entries) (given_all found))
list-is_right None under most found h = tt
list-is_right (Some entries) under most found h =
    let P : SourceEntry → Type 0 = λ e. entry_at e.path entries ≡ e in
    let es : List SourceEntry = take (most + 1) (files_under under entries) in
    let F : SourceEntry → Found = λ e. record { path = e.path; look = e.look } in
    let G : Found → Given = λ f. given_look f.path f.look in
    let Q : SourceEntry → Type 0 = λ e. IsAnswerOf entries (G (F e)) in
    let R : Found → Type 0 = λ f. IsAnswerOf entries (G f) in
    let all : All P es = All-take P (most + 1) (files_under under entries) (under-is under entries) in
    let right : (e : SourceEntry) → P e → Q e = λ e is. record { look_is = ap (λ (x : SourceEntry). x.look) (sym is); bytes_are = tt } in
    subst (λ f. All (IsAnswerOf entries) (given_all f)) (sym h) (All-map (IsAnswerOf entries) G (map F es) (All-map R F es (All-weaker P Q right es all)))
