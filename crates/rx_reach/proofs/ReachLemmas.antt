-- The closure of includes: what is known while files are read, and at the end.
use Rattle.std.proofs.Common.{◌≡◌, ◌↔◌, ℕ, ◌⊎◌, inl, inr, true, List, [], ◌∷◌, refl, sym, ap, ◌∙◌, subst}
use Rattle.std.specs.Prelude.{Contains}
use Rattle.rx_world.specs.declared.input_files.InputFile.{InputFile}
use Rattle.rx_reach.specs.declared.progress.Progress.{Progress}
use Rattle.rx_reach.specs.declared.searches.Search.{Search}
use Rattle.rx_reach.specs.Candidates.{Leaves, MeetsOther, Try}
use Rattle.rx_reach.specs.FileTables.{paths_of}
use Rattle.rx_reach.specs.Explored.{Explored}
use Rattle.rx_reach.specs.Progress.{IsHardIn, IsKnown, IsLeftBy}
use Rattle.rx_reach.specs.Visits.{Begins, IsHardFirst, Visits, VisitsAt}
use Rattle.rx_reach.specs.Reach.{IsAnyOutside, IsFileOf, IsFound, IsHard, IsLeft, IsReached, IsSought, LeadsTo, has_hidden}
use Rattle.rx_reach.specs.Scenes.{Scene}
use Rattle.rx_reach.specs.Searches.{tries_in}
use Rattle.rx_base.proofs.Members.{Contains-cons_cases, Contains-head, Contains-map, not_in_nothing, Contains-later, Contains-from_map}

-- ---- the beginning

begin-hard : (scene : Scene) (search : Search) (path : List ℕ) → IsHardFirst scene search path → IsHard scene search path
begin-hard scene search path (inl h) = inr (inl (h.0, inl h.1))
begin-hard scene search path (inr (inl h)) = inr (inl (h.0, inr h.1))
begin-hard scene search path (inr (inr h)) = inr (inr (h.0, inl h.1, h.2))

pub explored-first : (scene : Scene) (search : Search) (p : Progress) → p.read ≡ [] → Begins scene search p → Explored scene search p
explored-first scene search p empty b = record {
  reached = λ path h. ([], (b.known path).0 h);
  first = λ path h. (b.known path).1 h;
  closed = λ file path h _. absurd (nothing file h);
  files = λ file h. absurd (not_in_nothing file (subst (λ (xs : List InputFile). Contains xs file) empty h));
  hard_only = λ path h. begin-hard scene search path ((b.hard path).0 h);
  hard_first = λ path h. (b.hard path).1 h;
  hard_files = λ file path h _. absurd (nothing file h);
  left_only = λ path h. let l = (b.left path).0 h in (l.0, inl l.1, l.2);
  left_first = λ path h. (b.left path).1 h;
  left_files = λ file path h _. absurd (nothing file h);
}
  where
    nothing : (file : List ℕ) → Contains (paths_of p.read) file → ⊥
    nothing file h = not_in_nothing file (subst (λ (xs : List InputFile). Contains (paths_of xs) file) empty h)

-- ---- one file more

-- a file that was read now was read before, or is the new one
read-cases : (scene : Scene) (search : Search) (file : InputFile) (p q : Progress) (path : List ℕ) → Visits scene search file p q → Contains (paths_of q.read) path → (path ≡ file.path) ⊎ Contains (paths_of p.read) path
read-cases scene search file p q path v h =
    let there = Contains-from_map (λ (f : InputFile). f.path) q.read path h in
    elim ((v.read there.0).0 there.1) [
      | inl e ↦ inl (sym there.2 ∙ ap (λ (f : InputFile). f.path) e)
      | inr k ↦ inr (subst (Contains (paths_of p.read)) there.2 (Contains-map (λ (f : InputFile). f.path) p.read there.0 k))
    ]

file-hard : (scene : Scene) (search : Search) (file path : List ℕ) → IsReached scene search file → IsHardIn scene search file path → IsHard scene search path
file-hard scene search file path r (inl h) = inl (subst (IsReached scene search) (sym h.0) r, inl (subst (λ f. has_hidden scene search f ≡ true) (sym h.0) h.1))
file-hard scene search file path r (inr (inl h)) = inl (subst (IsReached scene search) (sym h.0) r, inr (subst (λ f. IsAnyOutside (tries_in search scene f)) (sym h.0) h.1))
file-hard scene search file path r (inr (inr h)) = inr (inr (h.0, inr (file, r, h.1), h.2))

pub explored-next : (scene : Scene) (search : Search) (file : InputFile) (p q : Progress) → IsKnown p file.path → Visits scene search file p q → Explored scene search p → Explored scene search q
explored-next scene search file p q k v e = record {
  reached = λ path h. elim ((v.known path).0 h) [ inl a ↦ e.reached path a | inr a ↦ let to = e.reached file.path k in (file.path ∷ to.0, (to.1, a)) ];
  first = λ path h. (v.known path).1 (inl (e.first path h));
  closed = λ f path h found. (v.known path).1 (elim (read-cases scene search file p q f v h) [ inl s ↦ inr (subst (λ x. IsFound scene (tries_in search scene x) path) s found) | inr r ↦ inl (e.closed f path r found) ]);
  files = λ f h. elim ((v.read f).0 h) [ inl s ↦ subst (IsFileOf scene) (sym s) v.file_is | inr r ↦ e.files f r ];
  hard_only = λ path h. elim ((v.hard path).0 h) [ inl a ↦ e.hard_only path a | inr a ↦ file-hard scene search file.path path (e.reached file.path k) a ];
  hard_first = λ path h. (v.hard path).1 (inl (e.hard_first path h));
  hard_files = λ f path h hard. (v.hard path).1 (elim (read-cases scene search file p q f v h) [ inl s ↦ inr (subst (λ x. IsHardIn scene search x path) s hard) | inr r ↦ inl (e.hard_files f path r hard) ]);
  left_only = λ path h. elim ((v.left path).0 h) [ inl a ↦ e.left_only path a | inr a ↦ (a.0, inr (file.path, e.reached file.path k, a.1), a.2) ];
  left_first = λ path h. (v.left path).1 (inl (e.left_first path h));
  left_files = λ f path h left. (v.left path).1 (elim (read-cases scene search file p q f v h) [ inl s ↦ inr (subst (λ x. IsLeftBy scene (tries_in search scene x) path) s left) | inr r ↦ inl (e.left_files f path r left) ]);
}

-- ---- the end

-- with nothing left to read, all that is known was read
read-known : (p : Progress) (path : List ℕ) → p.waiting ≡ [] → IsKnown p path → Contains (paths_of p.read) path
read-known p path w (inl h) = absurd (not_in_nothing path (subst (λ xs. Contains xs path) w h))
read-known p path w (inr h) = h

reached-read : (scene : Scene) (search : Search) (p : Progress) → p.waiting ≡ [] → Explored scene search p → (files : List (List ℕ)) (path : List ℕ) → LeadsTo scene search files path → Contains (paths_of p.read) path
reached-read scene search p w e [] path h = read-known p path w (e.first path h)
reached-read scene search p w e (before ∷ others) path h = read-known p path w (e.closed before path (reached-read scene search p w e others before h.0) h.1)

pub all-read : (scene : Scene) (search : Search) (p : Progress) → p.waiting ≡ [] → Explored scene search p → (path : List ℕ) → Contains (paths_of p.read) path ↔ IsReached scene search path
all-read scene search p w e path = (λ h. e.reached path (inr h), λ h. reached-read scene search p w e h.0 path h.1)

sought-hard : (scene : Scene) (search : Search) (p : Progress) → p.waiting ≡ [] → Explored scene search p → (t : Try) (path : List ℕ) → IsSought scene search t → MeetsOther scene t path → Contains p.hard path
sought-hard scene search p w e t path (inl h) m = e.hard_first path (inr (inr (t, h, m)))
sought-hard scene search p w e t path (inr h) m = e.hard_files h.0 path ((all-read scene search p w e h.0).1 h.1) (inr (inr (t, h.2, m)))

sought-left : (scene : Scene) (search : Search) (p : Progress) → p.waiting ≡ [] → Explored scene search p → (t : Try) (path : List ℕ) → IsSought scene search t → Leaves scene t path → Contains p.left path
sought-left scene search p w e t path (inl h) l = e.left_first path (t, h, l)
sought-left scene search p w e t path (inr h) l = e.left_files h.0 path ((all-read scene search p w e h.0).1 h.1) (t, h.2, l)

hard-judged : (scene : Scene) (search : Search) (p : Progress) → p.waiting ≡ [] → Explored scene search p → (path : List ℕ) → IsHard scene search path → Contains p.hard path
hard-judged scene search p w e path (inl (r, inl h)) = e.hard_files path path ((all-read scene search p w e path).1 r) (inl (refl, h))
hard-judged scene search p w e path (inl (r, inr h)) = e.hard_files path path ((all-read scene search p w e path).1 r) (inr (inl (refl, h)))
hard-judged scene search p w e path (inr (inl (s, inl h))) = e.hard_first path (inl (s, h))
hard-judged scene search p w e path (inr (inl (s, inr h))) = e.hard_first path (inr (inl (s, h)))
hard-judged scene search p w e path (inr (inr h)) = sought-hard scene search p w e h.0 path h.1 h.2

pub all-hard : (scene : Scene) (search : Search) (p : Progress) → p.waiting ≡ [] → Explored scene search p → (path : List ℕ) → Contains p.hard path ↔ IsHard scene search path
all-hard scene search p w e path = (λ h. e.hard_only path h, λ h. hard-judged scene search p w e path h)

pub all-left : (scene : Scene) (search : Search) (p : Progress) → p.waiting ≡ [] → Explored scene search p → (path : List ℕ) → Contains p.left path ↔ IsLeft scene search path
all-left scene search p w e path = (λ h. e.left_only path h, λ h. sought-left scene search p w e h.0 path h.1 h.2)

-- ---- from what waits to what was read

-- the first that waited was taken out, and then read
pub popped-visits : (scene : Scene) (search : Search) (path : List ℕ) (p mid q : Progress) → p.waiting ≡ path ∷ mid.waiting → mid.read ≡ p.read → mid.hard ≡ p.hard → mid.left ≡ p.left
    → (v : VisitsAt scene search path mid q) → Visits scene search v.file p q
popped-visits scene search path p mid q w r h l v = record {
  file_is = v.file_is;
  read = λ f. subst (λ (xs : List InputFile). Contains q.read f ↔ ((f ≡ v.file) ⊎ Contains xs f)) r (v.read f);
  known = λ x. (
    λ k. elim ((v.known x).0 k) [ inl a ↦ inl (back x a) | inr a ↦ inr (subst (λ y. IsFound scene (tries_in search scene y) x) (sym v.path_is) a) ],
    λ k. (v.known x).1 (elim k [ inl a ↦ inl (forth x a) | inr a ↦ inr (subst (λ y. IsFound scene (tries_in search scene y) x) v.path_is a) ]),
  );
  hard = λ x. subst (λ y. Contains q.hard x ↔ (Contains p.hard x ⊎ IsHardIn scene search y x)) (sym v.path_is) (subst (λ hs. Contains q.hard x ↔ (Contains hs x ⊎ IsHardIn scene search path x)) h (v.hard x));
  left = λ x. subst (λ y. Contains q.left x ↔ (Contains p.left x ⊎ IsLeftBy scene (tries_in search scene y) x)) (sym v.path_is) (subst (λ ls. Contains q.left x ↔ (Contains ls x ⊎ IsLeftBy scene (tries_in search scene path) x)) l (v.left x));
}
  where
    back : (x : List ℕ) → IsKnown mid x ⊎ (x ≡ path) → IsKnown p x
    back x (inl (inl k)) = inl (subst (λ xs. Contains xs x) (sym w) (Contains-later path mid.waiting x k))
    back x (inl (inr k)) = inr (subst (λ (xs : List InputFile). Contains (paths_of xs) x) r k)
    back x (inr s) = inl (subst (λ xs. Contains xs x) (sym w) (subst (Contains (path ∷ mid.waiting)) (sym s) (Contains-head path mid.waiting)))

    forth : (x : List ℕ) → IsKnown p x → IsKnown mid x ⊎ (x ≡ path)
    forth x (inl k) = elim (Contains-cons_cases path mid.waiting x (subst (λ xs. Contains xs x) w k)) [ inl e ↦ inr (sym e) | inr a ↦ inl (inl a) ]
    forth x (inr k) = inl (inr (subst (λ (xs : List InputFile). Contains (paths_of xs) x) (sym r) k))
