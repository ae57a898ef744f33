-- From what words say to the reading.
use Rattle.std.proofs.Common.{◌≡◌, ℕ, List, [], ◌++◌, drop, map, Result, IfOk, ap, ◌∙◌, subst}
use Rattle.rx_world.specs.declared.commands.Command.{Command}
use Rattle.rx_cppflags.specs.declared.meanings.Meaning.TheVariants.{Made}
use Rattle.rx_cppflags.specs.declared.readings.Reading.{Reading}
use Rattle.rx_cppflags.specs.Made.{made_texts, with_made}
use Rattle.rx_cppflags.specs.Pieces.{Saying, saying, sayings}
use Rattle.rx_cppflags.specs.Readings.{reading_from, reading_of}

pub told_reading : {E : Type 0} (command : Command) (inputs words made texts : List (List ℕ)) (start named given said last : List Saying) (result : Result Reading E)
    → start ≡ [] → words ≡ drop 1 command.words → named ≡ start ++ sayings command.working_directory inputs words → given ≡ named → made ≡ made_texts given → texts ≡ made
    → said ≡ named ++ map (λ text. saying command.working_directory inputs Made text text) texts → last ≡ said
    → IfOk result (λ reading. reading ≡ reading_from command last) → IfOk result (λ reading. reading ≡ reading_of command inputs)
unfolding reading_of
told_reading command inputs words made texts start named given said last result z w n g m t s l told =
    let d : List ℕ = command.working_directory in
    let first : named ≡ sayings d inputs (drop 1 command.words) = n ∙ rw z (ap (sayings d inputs) w) in
    let second : texts ≡ made_texts named = t ∙ m ∙ ap made_texts g in
    let third : last ≡ with_made d inputs named = l ∙ s ∙ ap (λ (made : List (List ℕ)). named ++ map (λ text. saying d inputs Made text text) made) second in
    subst (λ (r : Reading). IfOk result (λ reading. reading ≡ r)) (ap (reading_from command) (third ∙ ap (with_made d inputs) first)) told
