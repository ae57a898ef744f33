-- Whatever a compiler opens is reached.
use Rattle.std.proofs.Common.{◌≡◌, ℕ, inl, inr, Bool, true, false, List, [], ◌∷◌, ◌++◌, sym, subst}
use Rattle.std.specs.Prelude.{Contains, flat_map}
use Rattle.std.proofs.lemmas.List.Elements.{Contains-append_left, Contains-append_right}
use Rattle.rx_reach.specs.declared.searches.Search.{Search}
use Rattle.rx_reach.specs.Candidates.{Try}
use Rattle.rx_reach.specs.Opened.{Choice, IsOpened, OpensIn, Takes}
use Rattle.rx_reach.specs.Reach.{IsFound, IsReached, LeadsTo}
use Rattle.rx_reach.specs.Scenes.{Scene}
use Rattle.rx_reach.specs.Searches.{all_forced, all_walked, forced_tries, includes_of, tries_of}
use Rattle.rx_base.proofs.Members.{Contains-cons_cases, Contains-head, not_in_nothing}

flat-contains : {A : Type 0} (f : A → List Try) (xs : List A) (x : A) (t : Try) → Contains xs x → Contains (f x) t → Contains (flat_map f xs) t
flat-contains f [] x t h k = absurd (not_in_nothing x h)
flat-contains f (y ∷ ys) x t h k =
    elim (Contains-cons_cases y ys x h) [
      | inl e ↦ Contains-append_left (f y) (flat_map f ys) t (subst (λ z. Contains (f z) t) (sym e) k)
      | inr r ↦ Contains-append_right (f y) (flat_map f ys) t (flat-contains f ys x t r k)
    ]

taken-there : (tries before after : List Try) (t : Try) → tries ≡ before ++ t ∷ after → Contains tries t
taken-there tries before after t e = subst (λ ts. Contains ts t) (sym e) (Contains-append_right before (t ∷ after) t (Contains-head t after))

takes-found : (scene : Scene) (tries : List Try) (next : Bool) (path : List ℕ) → Takes scene tries next path → IsFound scene tries path
takes-found scene tries false path h = (h.taken, taken-there tries h.before h.after h.taken h.split, h.finds)
takes-found scene tries true path (inl h) = (h.taken, taken-there tries h.before h.after h.taken h.split, h.finds)
takes-found scene tries true path (inr h) = (h.taken, taken-there tries h.before h.after h.taken h.split, h.finds)

opens-leads : (scene : Scene) (search : Search) (choice : Choice) (files : List (List ℕ)) (path : List ℕ) → OpensIn scene search choice files path → LeadsTo scene search files path
opens-leads scene search choice [] path (inl h) = inl h
opens-leads scene search choice [] path (inr h) =
    let found = takes-found scene (forced_tries search h.0) false path h.2 in
    let forced = flat-contains (forced_tries search) search.forced h.0 found.0 h.1 found.1 in
    inr (found.0, Contains-append_left (all_forced search) (all_walked search) found.0 forced, found.2)
opens-leads scene search choice (file ∷ others) path h =
    let i = h.1 in
    let found = takes-found scene (tries_of search file i.0) (choice.is_next file i.0) path i.3 in
    (opens-leads scene search choice others file h.0, (found.0, flat-contains (tries_of search file) (includes_of scene file).list i.0 found.0 i.1 found.1, found.2))

pub opened-reached : (scene : Scene) (search : Search) (path : List ℕ) → IsOpened scene search path → IsReached scene search path
opened-reached scene search path h = (h.1, opens-leads scene search h.0 h.1 path h.2)
