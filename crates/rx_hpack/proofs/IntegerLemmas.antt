-- An integer that is read is spelled so, and one that is spelled is read.
use Rattle.std.proofs.Common.{◌≡◌, ℕ, ◌+◌, ◌-◌, ◌*◌, ◌^◌, ◌<◌, ◌≤◌, zero, suc, Bool, cond, inl, inr, nat_lt, List, [], ◌∷◌, ◌++◌, length, Result, Ok, Err, refl, sym, ap, subst, ◌∙◌, arith}
use Rattle.std.proofs.lemmas.Bool.{cases_lt, lt-ltb, le-ltb, ltb-false}
use Rattle.rx_hpack.specs.declared.fault.HpackFault.{HpackFault}
use Rattle.rx_hpack.specs.declared.fault.HpackFault.TheVariants.{BadInteger}
use Rattle.rx_hpack.specs.Answers.{◌>>=◌}
use Rattle.rx_hpack.specs.Integer.{groups_at, integer_at, IsGroups, IsInteger}
use Rattle.rx_hpack.proofs.Takes.{IsBytes, IsBytes-rest, bind_ok, guard_ok, ok_is}

-- ---- groups

pub record GroupsTaken (left : ℕ) (bytes : List ℕ) (n : ℕ) (rest : List ℕ) : Type 0 where
  pub text : List ℕ
  pub parts : bytes ≡ text ++ rest
  pub are_groups : IsGroups text n
  pub short : length text ≤ left
  pub rest_fits : IsBytes rest

pub more_groups : (b : ℕ) (text : List ℕ) (n high : ℕ) → 128 ≤ b → n + 128 ≡ b + 128 * high → IsGroups text high → IsGroups (b ∷ text) n
more_groups b [] n high le e h = absurd h
more_groups b (c ∷ text) n high le e h = (le, high, e, h)

groups_small : (b : ℕ) (bytes : List ℕ) (left : ℕ) → b < 128 → groups_at (suc left) (b ∷ bytes) ≡ Ok (b, bytes)
unfolding groups_at
groups_small b bytes left lt = rw (lt-ltb b 128 lt) refl

abbrev group : ℕ → ℕ × List ℕ → Result (ℕ × List ℕ) HpackFault
group b high = cond (nat_lt 33554431 high.0) (Err BadInteger) (Ok (b - 128 + 128 * high.0, high.1))

groups_large : (b : ℕ) (bytes : List ℕ) (left : ℕ) → 128 ≤ b → groups_at (suc left) (b ∷ bytes) ≡ (groups_at left bytes >>= group b)
unfolding groups_at
groups_large b bytes left le = rw (le-ltb b 128 le) refl

groups_take : (left : ℕ) (bytes : List ℕ) (x : ℕ × List ℕ) → IsBytes bytes → groups_at left bytes ≡ Ok x → GroupsTaken left bytes x.0 x.1
unfolding groups_at
groups_take zero bytes x fits e = absurd cc
groups_take (suc left) [] x fits e = absurd cc
groups_take (suc left) (b ∷ bytes) x fits e =
    elim (cases_lt b 128) [
      | inl lt ↦
          subst (λ (y : ℕ × List ℕ). GroupsTaken (suc left) (b ∷ bytes) y.0 y.1) (ok_is (b, bytes) x (sym (groups_small b bytes left lt) ∙ e))
          (record { text = b ∷ []; parts = refl; are_groups = (lt, refl); short = omega arith; rest_fits = IsBytes-rest b bytes fits })
      | inr le ↦
          let h = bind_ok (groups_at left bytes) (group b) x (sym (groups_large b bytes left le) ∙ e) in
          let t = groups_take left bytes h.0 (IsBytes-rest b bytes fits) h.1 in
          let g = guard_ok (nat_lt 33554431 h.0.0) BadInteger (b - 128 + 128 * h.0.0, h.0.1) x h.2 in
          subst (λ (y : ℕ × List ℕ). GroupsTaken (suc left) (b ∷ bytes) y.0 y.1) g.1
          (record {
            text = b ∷ t.text;
            parts = ap (λ (w : List ℕ). b ∷ w) t.parts;
            are_groups = more_groups b t.text (b - 128 + 128 * h.0.0) h.0.0 le (omega arith) t.are_groups;
            short = omega (arith, t.short);
            rest_fits = t.rest_fits;
          })
    ]

pub groups_again : (left n : ℕ) (text rest : List ℕ) → IsGroups text n → length text ≤ left → n < 2 ^ 32 → groups_at left (text ++ rest) ≡ Ok (n, rest)
groups_again left n [] rest h short fits = absurd h
groups_again zero n (b ∷ text) rest h short fits = absurd (omega (arith, short))
groups_again (suc left) n (b ∷ []) rest h short fits = groups_small b rest left h.0 ∙ ap (λ (k : ℕ). Ok (k, rest)) (sym h.1)
groups_again (suc left) n (b ∷ c ∷ text) rest h short fits =
    let high = h.1 in
    let small : high ≤ 33554431 = omega (arith, h.2, h.0, fits) in
    let n-is : b - 128 + 128 * high ≡ n = omega (arith, h.2, h.0) in
    groups_large b (c ∷ (text ++ rest)) left h.0
    ∙ ap (λ (r : Result (ℕ × List ℕ) HpackFault). r >>= group b) (groups_again left high (c ∷ text) rest h.3 (omega (arith, short)) (omega (arith, small)))
    ∙ ap (λ (t : Bool). cond t (Err BadInteger) (Ok (b - 128 + 128 * high, rest))) (le-ltb 33554431 high small)
    ∙ ap (λ (k : ℕ). Ok (k, rest)) n-is

-- ---- integers

pub record IntegerTaken (full form prefix : ℕ) (bytes : List ℕ) (n : ℕ) (rest : List ℕ) : Type 0 where
  pub text : List ℕ
  pub parts : (form + prefix) ∷ bytes ≡ text ++ rest
  pub is_integer : IsInteger full form text n
  pub rest_fits : IsBytes rest

integer_short : (full prefix : ℕ) (bytes : List ℕ) → prefix < full → integer_at full prefix bytes ≡ Ok (prefix, bytes)
unfolding integer_at
integer_short full prefix bytes lt = rw (lt-ltb prefix full lt) refl

abbrev above : ℕ → ℕ × List ℕ → Result (ℕ × List ℕ) HpackFault
above full more = cond (nat_lt 4294967295 (full + more.0)) (Err BadInteger) (Ok (full + more.0, more.1))

integer_long : (full prefix : ℕ) (bytes : List ℕ) → full ≤ prefix → integer_at full prefix bytes ≡ (groups_at 5 bytes >>= above full)
unfolding integer_at
integer_long full prefix bytes le = rw (le-ltb prefix full le) refl

pub integer_takes : (full form prefix : ℕ) (bytes : List ℕ) (x : ℕ × List ℕ) → prefix ≤ full → IsBytes bytes → integer_at full prefix bytes ≡ Ok x → IntegerTaken full form prefix bytes x.0 x.1
integer_takes full form prefix bytes x small fits e =
    elim (cases_lt prefix full) [
      | inl lt ↦
          subst (λ (y : ℕ × List ℕ). IntegerTaken full form prefix bytes y.0 y.1) (ok_is (prefix, bytes) x (sym (integer_short full prefix bytes lt) ∙ e))
          (record { text = (form + prefix) ∷ []; parts = refl; is_integer = inl (record { below = lt; spelled = refl }); rest_fits = fits })
      | inr le ↦
          let same : form + prefix ≡ form + full = omega arith in
          let h = bind_ok (groups_at 5 bytes) (above full) x (sym (integer_long full prefix bytes le) ∙ e) in
          let t = groups_take 5 bytes h.0 fits h.1 in
          let g = guard_ok (nat_lt 4294967295 (full + h.0.0)) BadInteger (full + h.0.0, h.0.1) x h.2 in
          subst (λ (y : ℕ × List ℕ). IntegerTaken full form prefix bytes y.0 y.1) g.1
          (record {
            text = (form + full) ∷ t.text;
            parts = rw same (ap (λ (w : List ℕ). (form + full) ∷ w) t.parts);
            is_integer = inr (record { groups = t.text; spelled = refl; above = h.0.0; sum = refl; are_groups = t.are_groups; short = t.short; fits = omega (arith, ltb-false 4294967295 (full + h.0.0) g.0) });
            rest_fits = t.rest_fits;
          })
    ]

pub record IntegerAgain (full form : ℕ) (text : List ℕ) (n : ℕ) (rest : List ℕ) : Type 0 where
  pub prefix : ℕ
  pub more : List ℕ
  pub small : prefix ≤ full
  pub spelled : text ≡ (form + prefix) ∷ more
  pub again : integer_at full prefix (more ++ rest) ≡ Ok (n, rest)

pub integer_again : (full form : ℕ) (text : List ℕ) (n : ℕ) (rest : List ℕ) → IsInteger full form text n → IntegerAgain full form text n rest
integer_again full form text n rest (inl h) =
    record { prefix = n; more = []; small = omega (arith, h.below); spelled = h.spelled; again = integer_short full n rest h.below }
integer_again full form text n rest (inr h) =
    let above_fits : h.above < 2 ^ 32 = omega (arith, h.fits, h.sum) in
    record {
      prefix = full;
      more = h.groups;
      small = omega arith;
      spelled = h.spelled;
      again = integer_long full full (h.groups ++ rest) (omega arith)
          ∙ ap (λ (r : Result (ℕ × List ℕ) HpackFault). r >>= above full) (groups_again 5 h.above h.groups rest h.are_groups h.short above_fits)
          ∙ ap (λ (t : Bool). cond t (Err BadInteger) (Ok (full + h.above, rest))) (le-ltb 4294967295 (full + h.above) (omega (arith, h.fits, h.sum)))
          ∙ ap (λ (k : ℕ). Ok (k, rest)) (sym h.sum);
    }
