-- A look, and the read that may follow it.
use Rattle.std.proofs.Common.{◌≡◌, ℕ, true, List, [], ◌∷◌, refl, ap, inr}
use Rattle.std.specs.Prelude.{Result, Ok, Err, MatchResult}
use Rattle.rx_base.specs.declared.digests.Digest.{Digest}
use Rattle.rx_world.specs.declared.looks.Look.{Look}
use Rattle.rx_world.specs.declared.sources.Given.{Given}
use Rattle.rx_world.specs.declared.sources.Sources as sources
use Rattle.rx_world.specs.declared.world.World as world
use Rattle.rx_world.specs.Sources.{given_look, is_file}
use Rattle.rx_digest_cache.specs.declared.cache_fault.CacheFault.{CacheFault}
use Rattle.rx_digest_cache.specs.declared.cache_fault.CacheFault.TheVariants.{NoMemory, NotFile, SourceFault}
use Rattle.rx_world.specs.Answers.{Gives}
use Rattle.rx_world.proofs.AnswerLemmas.{gives-join}
use Rattle.rx_digest_cache.specs.Cache.{Asks, IsFound, IsRead, Refuses, RefusesRead}

-- what a read answers is what was found, and its refusals are refusals, after a look at a file
followed : (path : List ℕ) (first : Look) (others : List Given) (result : Result (Look × Digest) CacheFault) → is_file first ≡ true
    → MatchResult result (λ found. IsRead path others found.0 found.1) (RefusesRead path others)
    → MatchResult result (λ found. IsFound path (given_look path first ∷ others) found.0 found.1) (Refuses path (given_look path first ∷ others))
followed path first others (Ok found) file h = inr (others, record { first = first; is_one = file; answers_are = refl }, h)
followed path first others (Err (NotFile look)) file h = (h.0, inr (record { first = first; is_one = file; answers_are = ap (λ s. given_look path first ∷ s) h.1 }))
followed path first others (Err SourceFault) file h = inr (record { first = first; is_one = file; answers_are = ap (λ s. given_look path first ∷ s) h })
followed path first others (Err NoMemory) file h = record { first = first; is_one = file; answers_are = ap (λ s. given_look path first ∷ s) h }

-- a look at a file, and the read after it
pub then-read : {T W : Type 0} (w : world.Ghosts W) (s : sources.Ghosts T W) (a b c : T) (path : List ℕ) (first : Look) (result : Result (Look × Digest) CacheFault)
    → is_file first ≡ true
    → Gives w s a b (given_look path first ∷ [])
    → Asks w s b c (λ others. MatchResult result (λ found. IsRead path others found.0 found.1) (RefusesRead path others))
    → Asks w s a c (λ answers. MatchResult result (λ found. IsFound path answers found.0 found.1) (Refuses path answers))
then-read w s a b c path first result file g h = record {
  answers = given_look path first ∷ h.answers;
  gives = gives-join w s a b c _ _ g h.gives;
  fact = followed path first h.answers result file h.fact;
}
