-- What stays of a channel from call to call: the rule of its dial, and the name of its farm.
use Rattle.std.proofs.Common.{ℕ, List, [], ◌∷◌, refl, sym, subst, ◌∙◌}
use Rattle.rx_world.specs.Links.{SameRule}
use Rattle.rx_world.specs.declared.links.Link as links
use Rattle.rx_grpc.specs.Channel.{ChannelOf, Keeps}
use Rattle.rx_grpc.specs.StreamedCalls.{Came, GoesOnBy}

pub same-rule : (r : List ℕ → List ℕ → Type 0) → SameRule r r
same-rule r sent received = (λ x. x, λ x. x)

pub same-rules : (a b c : List ℕ → List ℕ → Type 0) → SameRule a b → SameRule b c → SameRule a c
same-rules a b c f g sent received = (λ x. (g sent received).0 ((f sent received).0 x), λ x. (f sent received).1 ((g sent received).1 x))

pub keeps-all : {D L : Type 0} (rule : D → List ℕ → List ℕ → Type 0) (c : ChannelOf D L) → Keeps rule c c
keeps-all rule c = record { same_rule = same-rule (rule c.dial); authority = refl }

pub keeps-both : {D L : Type 0} (rule : D → List ℕ → List ℕ → Type 0) (a b c : ChannelOf D L) → Keeps rule a b → Keeps rule b c → Keeps rule a c
keeps-both rule a b c k l = record {
  same_rule = same-rules (rule a.dial) (rule b.dial) (rule c.dial) k.same_rule l.same_rule;
  authority = l.authority ∙ k.authority;
}

pub keeps-on : {D L : Type 0} (rule : D → List ℕ → List ℕ → Type 0) (link : links.Ghosts L) (old new : ChannelOf D L) (items : List Came) → GoesOnBy rule link old new items → Keeps rule old new
keeps-on rule link old new [] e = subst (λ x. Keeps rule old x) (sym e) (keeps-all rule old)
keeps-on rule link old new (came ∷ items) g = keeps-both rule old g.0 new g.1.keeps (keeps-on rule link g.0 new items g.2)
