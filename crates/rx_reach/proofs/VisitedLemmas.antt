-- A file that was read, among those that were read before.
use Rattle.std.proofs.Common.{◌≡◌, ◌↔◌, ℕ, ◌+◌, ◌⊎◌, inl, inr, Bool, List, length, refl, sym, ap, ◌∙◌, subst}
use Rattle.std.specs.Prelude.{Contains, Some}
use Rattle.std.proofs.lemmas.List.Elements.{All-contains, All-weaker}
use Rattle.rx_base.specs.Digests.{digest_of}
use Rattle.rx_base.specs.declared.digests.Digest.{Digest}
use Rattle.rx_world.specs.declared.input_files.InputFile.{InputFile}
use Rattle.rx_world.specs.declared.looks.Look.{Look}
use Rattle.rx_world.specs.declared.looks.Look.TheVariants.{File}
use Rattle.rx_world.specs.declared.looks.Stamp.{Stamp}
use Rattle.rx_world.specs.declared.sources.Given.{Given}
use Rattle.rx_reach.specs.declared.progress.Progress.{Progress}
use Rattle.rx_reach.specs.declared.searches.Search.{Search}
use Rattle.rx_reach.specs.Explored.{AreSeen, HaveDigests}
use Rattle.rx_reach.specs.FileTables.{paths_of}
use Rattle.rx_reach.specs.Progress.{AreApart, Explores, IsHardIn, IsKnown, IsLeftBy, Stays}
use Rattle.rx_reach.specs.Reach.{IsFileOf}
use Rattle.rx_reach.specs.Scenes.{Scene}
use Rattle.rx_reach.specs.Searches.{tries_in}
use Rattle.rx_reach.specs.Sights.{Notes, seen_at}
use Rattle.rx_reach.specs.Visits.{VisitsAt}
use Rattle.rx_reach.proofs.SetLemmas.{all-from}
use Rattle.rx_reach.proofs.SightLemmas.{notes-keep}
use Rattle.rx_base.proofs.Members.{Contains-map, Contains-from_map}

-- the paths of the files after one more was added
paths-more : (file : InputFile) (old new : List InputFile) → ((f : InputFile) → Contains new f ↔ ((f ≡ file) ⊎ Contains old f)) → (path : List ℕ) → Contains (paths_of new) path ↔ ((path ≡ file.path) ⊎ Contains (paths_of old) path)
paths-more file old new iff path = (
  λ h. let there = Contains-from_map (λ (f : InputFile). f.path) new path h in
      elim ((iff there.0).0 there.1) [
        | inl e ↦ inl (sym there.2 ∙ ap (λ (f : InputFile). f.path) e)
        | inr k ↦ inr (subst (Contains (paths_of old)) there.2 (Contains-map (λ (f : InputFile). f.path) old there.0 k))
      ],
  λ h. elim h [
    | inl e ↦ subst (Contains (paths_of new)) (sym e) (Contains-map (λ (f : InputFile). f.path) new file ((iff file).1 (inl refl)))
    | inr k ↦ let there = Contains-from_map (λ (f : InputFile). f.path) old path k in subst (Contains (paths_of new)) there.2 (Contains-map (λ (f : InputFile). f.path) new there.0 ((iff there.0).1 (inr there.1)))
  ],
)

pub visited : (scene : Scene) (search : Search) (path : List ℕ) (file : InputFile) (p mid q : Progress) → file.path ≡ path → IsFileOf scene file
    → ((f : InputFile) → Contains mid.read f ↔ ((f ≡ file) ⊎ Contains p.read f)) → length mid.read ≡ length p.read + 1
    → mid.waiting ≡ p.waiting → mid.hard ≡ p.hard → mid.left ≡ p.left → q.read ≡ mid.read → Explores scene search path mid q → VisitsAt scene search path p q
visited scene search path file p mid q at is added len w h l same e = record {
  file = file;
  path_is = at;
  file_is = is;
  read = λ f. subst (λ (xs : List InputFile). Contains xs f ↔ ((f ≡ file) ⊎ Contains p.read f)) (sym same) (added f);
  known = λ x. (
    λ k. elim ((e.known x).0 k) [ inl a ↦ inl (back x a) | inr a ↦ inr a ],
    λ k. (e.known x).1 (elim k [ inl a ↦ inl (forth x a) | inr a ↦ inr a ]),
  );
  hard = λ x. subst (λ hs. Contains q.hard x ↔ (Contains hs x ⊎ IsHardIn scene search path x)) h (e.hard x);
  left = λ x. subst (λ ls. Contains q.left x ↔ (Contains ls x ⊎ IsLeftBy scene (tries_in search scene path) x)) l (e.left x);
  count = ap (λ (xs : List InputFile). length xs) same ∙ len;
}
  where
    back : (x : List ℕ) → IsKnown mid x → IsKnown p x ⊎ (x ≡ path)
    back x (inl k) = inl (inl (subst (λ xs. Contains xs x) w k))
    back x (inr k) = elim ((paths-more file p.read mid.read added x).0 k) [ inl s ↦ inr (s ∙ at) | inr r ↦ inl (inr r) ]

    forth : (x : List ℕ) → IsKnown p x ⊎ (x ≡ path) → IsKnown mid x
    forth x (inl (inl k)) = inl (subst (λ xs. Contains xs x) (sym w) k)
    forth x (inl (inr k)) = inr ((paths-more file p.read mid.read added x).1 (inr k))
    forth x (inr s) = inr ((paths-more file p.read mid.read added x).1 (inl (s ∙ sym at)))

-- what waits was not read, where the new file does not wait
pub visited-apart : (path : List ℕ) (file : InputFile) (p mid q : Progress) → file.path ≡ path → ((f : InputFile) → Contains mid.read f ↔ ((f ≡ file) ⊎ Contains p.read f)) → mid.waiting ≡ p.waiting
    → Stays mid q → AreApart p → (Contains p.waiting path → ⊥) → AreApart q
visited-apart path file p mid q at added w s a gone = s.apart (λ x k r.
    let there = subst (λ xs. Contains xs x) w k in
    elim ((paths-more file p.read mid.read added x).0 r) [ inl e ↦ gone (subst (Contains p.waiting) (e ∙ at) there) | inr o ↦ a x there o ])

pub file-is : (scene : Scene) (look : Look) (stamp : Stamp) (executable : Bool) (digest : Digest) (path copy : List ℕ) → copy ≡ path → look ≡ File stamp executable → look ≡ scene.look path
    → IsFileOf scene (record { path = copy; digest = digest; stamp = stamp; executable = executable })
file-is scene look stamp executable digest path copy same is seen = ap scene.look same ∙ sym seen ∙ is

-- ---- digests

-- the digest of the path, said of its copy
pub copied-digest : (content : List ℕ → Stamp → List ℕ) (path copy : List ℕ) (stamp : Stamp) (digest : Digest) → copy ≡ path → digest ≡ digest_of (content path stamp) → digest ≡ digest_of (content copy stamp)
copied-digest content path copy stamp digest same d = d ∙ ap (λ p. digest_of (content p stamp)) (sym same)

pub visited-digests : (content : List ℕ → Stamp → List ℕ) (file : InputFile) (old new : List InputFile) → ((f : InputFile) → Contains new f ↔ ((f ≡ file) ⊎ Contains old f)) → file.digest ≡ digest_of (content file.path file.stamp)
    → HaveDigests content old → HaveDigests content new
visited-digests content file old new added d all =
    all-from (λ (f : InputFile). f.digest ≡ digest_of (content f.path f.stamp)) new (λ f h.
    elim ((added f).0 h) [
      | inl e ↦ subst (λ (x : InputFile). x.digest ≡ digest_of (content x.path x.stamp)) (sym e) d
      | inr k ↦ All-contains (λ (x : InputFile). x.digest ≡ digest_of (content x.path x.stamp)) old f all k
    ])

-- ---- what was seen

abbrev Sights : Type 0
Sights = List (List ℕ × Look)

abbrev IsSeen : Sights → InputFile → Type 0
IsSeen sights file = seen_at sights file.path ≡ Some (File file.stamp file.executable)

-- what was seen of files is seen later
pub seen-kept : (old new : Sights) (answers : List Given) (files : List InputFile) → Notes old new answers → AreSeen old files → AreSeen new files
seen-kept old new answers files n all = All-weaker (IsSeen old) (IsSeen new) (λ (file : InputFile) e. notes-keep old new answers file.path (File file.stamp file.executable) n e) files all

-- a file is what was seen at the path of which its path is a copy
pub seen-file : (sights : Sights) (look : Look) (stamp : Stamp) (executable : Bool) (path copy : List ℕ) → copy ≡ path → look ≡ File stamp executable → seen_at sights path ≡ Some look → seen_at sights copy ≡ Some (File stamp executable)
seen-file sights look stamp executable path copy same is seen = ap (seen_at sights) same ∙ seen ∙ ap (λ l. Some l) is

pub visited-seen : (sights : Sights) (file : InputFile) (old new : List InputFile) → ((f : InputFile) → Contains new f ↔ ((f ≡ file) ⊎ Contains old f)) → IsSeen sights file → AreSeen sights old → AreSeen sights new
visited-seen sights file old new added is all =
    all-from (IsSeen sights) new (λ (f : InputFile) h. elim ((added f).0 h) [ inl e ↦ subst (IsSeen sights) (sym e) is | inr k ↦ All-contains (IsSeen sights) old f all k ])
