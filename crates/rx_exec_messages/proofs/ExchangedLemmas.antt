-- Exchanges that were made between two states of a client: none, one, and one part after another.
use Rattle.std.proofs.Common.{◌≡◌, ◌∙◌, List, [], ◌∷◌, ◌++◌, Option, None, Some, Result, refl, sym, ap, arith}
use Rattle.std.proofs.lemmas.List.{append-nil, append_assoc}
use Rattle.rx_base.specs.Told.{Told}
use Rattle.rx_base.specs.declared.digests.Digest.{Digest}
use Rattle.rx_world.specs.declared.call_faults.CallFault.{CallFault}
use Rattle.rx_world.specs.declared.commands.Command.{Command}
use Rattle.rx_world.specs.declared.outcomes.Outcome.{Outcome}
use Rattle.rx_world.specs.declared.versions.Dialect.{Dialect}
use Rattle.rx_exec_messages.specs.declared.callers.Caller as callers
use Rattle.rx_exec_messages.specs.declared.exchanges.Exchange.{Exchange}
use Rattle.rx_exec_messages.specs.Calls.{AddsCall, HasCallCause, Stays}
use Rattle.rx_exec_messages.specs.Exchanged.{Exchanged, HasExchanged}

-- ---- what is told

abbrev Adds : Option (List Exchange) → Option (List Exchange) → List Exchange → Type 0
Adds old new part = Told old new (λ x y. y ≡ x ++ part)

tells-none : (told : Option (List Exchange)) → Adds told told []
tells-none None = tt
tells-none (Some all) = sym (append-nil all)

tells-both : (a b c : Option (List Exchange)) (xs ys : List Exchange) → Adds a b xs → Adds b c ys → Adds a c (xs ++ ys)
tells-both None b c xs ys f g = tt
tells-both (Some a) None c xs ys f g = absurd f
tells-both (Some a) (Some b) None xs ys f g = absurd g
tells-both (Some a) (Some b) (Some c) xs ys f g = g ∙ ap (λ (all : List Exchange). all ++ ys) f ∙ append_assoc a xs ys

-- ---- what stays

stays-same : {C : Type 0} (vouches : C → Digest → Command → Outcome → Type 0) (genuine : C → Type 0) (dialect : C → Dialect) (x : C) → Stays vouches genuine dialect x x
stays-same vouches genuine dialect x = record { triples = λ d c o v. v; still_genuine = λ g. g; same_dialect = refl }

pub stays-both : {C : Type 0} (vouches : C → Digest → Command → Outcome → Type 0) (genuine : C → Type 0) (dialect : C → Dialect) (x y z : C) →
    Stays vouches genuine dialect x y → Stays vouches genuine dialect y z → Stays vouches genuine dialect x z
stays-both vouches genuine dialect x y z f g = record {
  triples = λ d c o v. g.triples d c o (f.triples d c o v);
  still_genuine = λ h. g.still_genuine (f.still_genuine h);
  same_dialect = g.same_dialect ∙ f.same_dialect;
}

-- ---- exchanges

pub exchanged-none : {C W : Type 0} (c : callers.Ghosts C W) (x : C) → Exchanged c x x []
exchanged-none c x = record { told = tells-none (c.conversation x); stays = stays-same c.vouches c.genuine c.dialect x; later = omega arith }

pub exchanged-both : {C W : Type 0} (c : callers.Ghosts C W) (x y z : C) (front back : List Exchange) → Exchanged c x y front → Exchanged c y z back →
    Exchanged c x z (front ++ back)
exchanged-both c x y z front back f g = record {
  told = tells-both (c.conversation x) (c.conversation y) (c.conversation z) front back f.told g.told;
  stays = stays-both c.vouches c.genuine c.dialect x y z f.stays g.stays;
  later = let one = f.later in let two = g.later in omega arith;
}

-- one call
pub one-exchange : {C W T : Type 0} (c : callers.Ghosts C W) (IsSuch : List Exchange → Type 0) (x y : C) (exchange : Exchange) (result : Result T CallFault) →
    AddsCall (c.conversation x) (c.conversation y) exchange → Stays c.vouches c.genuine c.dialect x y → HasCallCause (c.faults x) (c.faults y) result →
    IsSuch (exchange ∷ []) → HasExchanged c x y IsSuch
one-exchange c IsSuch x y exchange result told stays cause such =
    record { part = exchange ∷ []; exchanged = record { told = told; stays = stays; later = cause.later }; is_such = such }

-- no call
pub no-exchange : {C W : Type 0} (c : callers.Ghosts C W) (IsSuch : List Exchange → Type 0) (x : C) → IsSuch [] → HasExchanged c x x IsSuch
no-exchange c IsSuch x such = record { part = []; exchanged = exchanged-none c x; is_such = such }

-- one part after another
pub exchanges-then : {C W : Type 0} (c : callers.Ghosts C W) (IsSuch IsThen IsAll : List Exchange → Type 0) (x y z : C) →
    HasExchanged c x y IsSuch → HasExchanged c y z IsThen → ((front back : List Exchange) → IsSuch front → IsThen back → IsAll (front ++ back)) → HasExchanged c x z IsAll
exchanges-then c IsSuch IsThen IsAll x y z f g both = record {
  part = f.part ++ g.part;
  exchanged = exchanged-both c x y z f.part g.part f.exchanged g.exchanged;
  is_such = both f.part g.part f.is_such g.is_such;
}

-- the same exchanges, said in another way
pub exchanges-are : {C W : Type 0} (c : callers.Ghosts C W) (IsSuch IsAll : List Exchange → Type 0) (x y : C) → HasExchanged c x y IsSuch →
    ((part : List Exchange) → IsSuch part → IsAll part) → HasExchanged c x y IsAll
exchanges-are c IsSuch IsAll x y f so = record { part = f.part; exchanged = f.exchanged; is_such = so f.part f.is_such }
