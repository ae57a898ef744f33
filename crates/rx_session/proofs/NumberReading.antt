-- The numbers of versions read one after the other.
use Rattle.std.proofs.Common.{◌≡◌, ℕ, ℤ, ◌+◌, ◌<◌, ◌≤◌, List, [], ◌∷◌, ◌++◌, length, get_or, drop, Result, Ok, Err, refl, sym, ap, ◌∙◌, append_assoc}
use Rattle.std.specs.Prelude.{IfSome}
use Rattle.std.proofs.lemmas.List.{drop_all, drop_more}
use Rattle.rx_base.specs.Results.{◌>>=◌}
use Rattle.rx_session.specs.declared.reply_fault.ReplyFault.{ReplyFault}
use Rattle.rx_session.specs.declared.version_numbers.NumberSoFar.{NumberSoFar}
use Rattle.rx_session.specs.declared.version_numbers.NumberStep.TheVariants.{Within, Ended}
use Rattle.rx_session.specs.Versions.{before, most, no_number, numbers_from, signed_of, step_of}

-- these before the others
abbrev onto : List ℤ → Result (List ℤ) ReplyFault → Result (List ℤ) ReplyFault
onto done others = others >>= (λ numbers. Ok (done ++ numbers))

-- the numbers so far and those from here on are all
pub record IsReading (text : List ℕ) (at : ℕ) (numbers : List ℤ) (so : NumberSoFar) : Type 0 where
  pub small : IfSome so.value (λ n. n ≤ most)
  pub rest : onto numbers (numbers_from so (drop at text)) ≡ numbers_from no_number text

onto-none : (others : Result (List ℤ) ReplyFault) → onto [] others ≡ others
onto-none (Ok numbers) = refl
onto-none (Err fault) = refl

onto-more : (done : List ℤ) (number : ℤ) (others : Result (List ℤ) ReplyFault) → onto done (before number others) ≡ onto (done ++ number ∷ []) others
onto-more done number (Ok numbers) = ap Ok (sym (append_assoc done (number ∷ []) numbers))
onto-more done number (Err why) = refl

pub reading_starts : (text : List ℕ) → IsReading text 0 [] no_number
reading_starts text = record { small = tt; rest = onto-none (numbers_from no_number text) }

module _ (text : List ℕ) (at : ℕ) (numbers : List ℤ) (so : NumberSoFar) (b : ℕ) where
  here : at < length text → b ≡ get_or text at 0 → IsReading text at numbers so → onto numbers (numbers_from so (b ∷ drop (at + 1) text)) ≡ numbers_from no_number text
  here lt is r = rw (drop_more text at 0 lt, ← is) at r.rest

  pub goes_on_within : (next : NumberSoFar) → IsReading text at numbers so → at < length text → b ≡ get_or text at 0 → step_of so b ≡ Ok (Within next) → IfSome next.value (λ n. n ≤ most)
      → IsReading text (at + 1) numbers next
  unfolding numbers_from
  goes_on_within next r lt is step small = record { small = small; rest = rw step at (here lt is r) }

  pub goes_on_behind : (number : ℤ) → IsReading text at numbers so → at < length text → b ≡ get_or text at 0 → step_of so b ≡ Ok (Ended number) → IsReading text (at + 1) (numbers ++ number ∷ []) no_number
  unfolding numbers_from
  goes_on_behind number r lt is step = record { small = tt; rest = sym (onto-more numbers number (numbers_from no_number (drop (at + 1) text))) ∙ (rw step at (here lt is r)) }

  pub is_refused : (why : ReplyFault) → IsReading text at numbers so → at < length text → b ≡ get_or text at 0 → step_of so b ≡ Err why → numbers_from no_number text ≡ Err why
  unfolding numbers_from
  is_refused why r lt is step = sym (rw step at (here lt is r))

pub reading_ends : (text : List ℕ) (at : ℕ) (numbers : List ℤ) (so : NumberSoFar) (number : ℤ) → IsReading text at numbers so → length text ≤ at
    → signed_of so.negative so.value ≡ Ok number → numbers_from no_number text ≡ Ok (numbers ++ number ∷ [])
unfolding numbers_from
reading_ends text at numbers so number r le read = sym (rw (drop_all at text le, read) at r.rest)

pub end_is_refused : (text : List ℕ) (at : ℕ) (numbers : List ℤ) (so : NumberSoFar) (why : ReplyFault) → IsReading text at numbers so → length text ≤ at
    → signed_of so.negative so.value ≡ Err why → numbers_from no_number text ≡ Err why
unfolding numbers_from
end_is_refused text at numbers so why r le read = sym (rw (drop_all at text le, read) at r.rest)
