-- Answers of a source tree: over no call, over each kind of call, and over several.
use Rattle.std.proofs.Common.{◌≡◌, ◌≢◌, ◌≤◌, ℕ, List, [], ◌∷◌, ◌++◌, refl, ap, sym, ◌∙◌, append_assoc, append-nil, arith, subst}
use Rattle.std.proofs.lemmas.List.Elements.{All-append, All-nil}
use Rattle.std.specs.Prelude.{Option, None, Some, All, IfSome}
use Rattle.rx_world.specs.declared.looks.Stamp.{Stamp}
use Rattle.rx_world.specs.declared.sources.Given.{Given}
use Rattle.rx_world.specs.declared.sources.SourceEntry.{SourceEntry}
use Rattle.rx_world.specs.declared.sources.Sources as sources
use Rattle.rx_world.specs.declared.world.World as world
use Rattle.rx_world.specs.Answers.{Gives, HasContent, IsAnswerOf}
use Rattle.rx_world.specs.Sources.{Adds, HoldContent}

adds-join : (a b c : Option (List Given)) (xs ys : List Given) → Adds a b xs → Adds b c ys → Adds a c (xs ++ ys)
adds-join None b c xs ys h k = tt
adds-join (Some told) None c xs ys h k = absurd h
adds-join (Some told) (Some bs) None xs ys h k = absurd k
adds-join (Some told) (Some bs) (Some cs) xs ys h k = k ∙ ap (λ s. s ++ ys) h ∙ append_assoc told xs ys

adds-none : (a : Option (List Given)) → Adds a a []
adds-none None = tt
adds-none (Some told) = sym (append-nil told)

list-join : (o : Option (List SourceEntry)) (xs ys : List Given) → IfSome o (λ es. All (IsAnswerOf es) xs) → IfSome o (λ es. All (IsAnswerOf es) ys) → IfSome o (λ es. All (IsAnswerOf es) (xs ++ ys))
list-join None xs ys h k = tt
list-join (Some es) xs ys h k = All-append (IsAnswerOf es) xs ys h k

list-none : (o : Option (List SourceEntry)) → IfSome o (λ es. All (IsAnswerOf es) [])
list-none None = tt
list-none (Some es) = All-nil (IsAnswerOf es)

abbrev IsNotEmpty : List Given → Type 0
IsNotEmpty [] = ⊥
IsNotEmpty (x ∷ xs) = Unit {0}

-- what holds of the list holds over both where there are answers in the first part, or else in the second
holds-join : (xs ys : List Given) (F : Type 0) → (xs ≢ [] → F) → (ys ≢ [] → F) → xs ++ ys ≢ [] → F
holds-join [] ys F h k some = k some
holds-join (x ∷ xs) ys F h k some = h (λ none. subst IsNotEmpty none tt)

-- answers, and then more of them
pub gives-join : {T W : Type 0} (w : world.Ghosts W) (s : sources.Ghosts T W) (a b c : T) (xs ys : List Given) → Gives w s a b xs → Gives w s b c ys → Gives w s a c (xs ++ ys)
gives-join w s a b c xs ys g h = record {
  told = adds-join (s.given a) (s.given b) (s.given c) xs ys g.told h.told;
  kept = λ k. let first = g.kept k in let second = h.kept first.0 in (second.0, second.1 ∙ first.1);
  by_list = λ k. let first = g.kept k in list-join (s.listed a) xs ys (g.by_list k) (subst (λ o. IfSome o (λ es. All (IsAnswerOf es) ys)) first.1 (h.by_list first.0));
  contents = λ e. All-append (HasContent w.content) xs ys (g.contents e) (h.contents e);
  holds = λ e k. let first = g.kept k in holds-join xs ys (IfSome (s.listed a) (HoldContent w.content)) (g.holds e k) (λ some. subst (λ o. IfSome o (HoldContent w.content)) first.1 (h.holds e first.0 some));
  later = omega (arith, g.later, h.later);
}

-- no answers yet
pub gives-none : {T W : Type 0} (w : world.Ghosts W) (s : sources.Ghosts T W) (a : T) → Gives w s a a []
gives-none w s a = record {
  told = adds-none (s.given a);
  kept = λ k. (k, refl);
  by_list = λ k. list-none (s.listed a);
  contents = λ e. All-nil (HasContent w.content);
  holds = λ e k some. absurd (some refl);
  later = omega arith;
}
