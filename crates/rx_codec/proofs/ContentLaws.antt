-- The fields of one number, and what they mean.
use Rattle.std.proofs.Common.{◌≡◌, ℕ, ℤ, ◌<◌, ◌≤◌, ◌==◌, Bool, true, false, cond, List, [], ◌∷◌, ◌++◌, length, map, take, Option, Some, None, Result, Ok, Err, refl, sym, ap, ◌∙◌, arith, append_assoc, subst}
use Rattle.std.specs.Prelude.{IfSome, unwrap_or}
use Rattle.std.specs.Int.{w64, cast_signed, cast_unsigned}
use Rattle.std.specs.List.{AllByRecursion, concat, filter_map, last_or}
use Rattle.std.specs.Str.{IsUtf8}
use Rattle.std.proofs.lemmas.Bool.{eqb-true, ne_eqb}
use Rattle.std.proofs.lemmas.List.{append-nil, take_all}
use Rattle.std.proofs.lemmas.List.Elements.{filter_map-append}
use Rattle.std.proofs.lemmas.Str.{IsUtf8-from_is_utf8, IsUtf8-nil, is_utf8-from_IsUtf8}
use Rattle.rx_wire.specs.Integers.{int32_of, sign_extended}
use Rattle.rx_wire.specs.Values.{Content, varint, fixed64, bytes, fixed32, Field}
use Rattle.rx_codec.specs.Contents.{chunk_of, number_of, chunks, numbers, text_in, text_put, number_in, number_put, truth_in, truth_put, int32_in, int32_put, int64_in, int64_put, texts_in, texts_put, joined_in, one_in, one_of, one_put, each_in, each_put}
use Rattle.rx_codec.specs.FieldBytes.{contents, numbered, fields_bytes, fields_in}
use Rattle.rx_codec.specs.Parts.{Part, anything, text, message, HasParts, IsMessage, IsPart}
use Rattle.rx_codec.specs.Seen.{chunk_in, varint_in}
use Rattle.rx_codec.specs.declared.faults.MessageFault.{MessageFault}

pub contents-append : (n : ℕ) (fs gs : List Field) → contents n (fs ++ gs) ≡ contents n fs ++ contents n gs
contents-append n [] gs = refl
contents-append n (f ∷ fs) gs =
    elim (f.number == n) as (λ t. (f.number == n) ≡ t → contents n ((f ∷ fs) ++ gs) ≡ contents n (f ∷ fs) ++ contents n gs) [
      | true ↦ λ e. rw e (ap (λ (cs : List Content). f.content ∷ cs) (contents-append n fs gs))
      | false ↦ λ e. rw e (contents-append n fs gs)
    ] refl

either : (t : Bool) (cs : List Content) → cs ≡ [] → cs ≡ cond t cs []
either true cs e = refl
either false cs e = e

-- those of the number are found, and those of another aren't
pub contents-numbered : (n m : ℕ) (cs : List Content) → contents n (numbered m cs) ≡ cond (m == n) cs []
contents-numbered n m [] = either (m == n) [] refl
contents-numbered n m (c ∷ cs) =
    elim (m == n) as (λ t. (m == n) ≡ t → contents n (numbered m (c ∷ cs)) ≡ cond (m == n) (c ∷ cs) []) [
      | true ↦ λ e. rw e (ap (λ (ds : List Content). c ∷ ds) (rw e at (contents-numbered n m cs)))
      | false ↦ λ e. rw e (rw e at (contents-numbered n m cs))
    ] refl

-- ---- what is put is read

pub text_again : (x : List ℕ) → text_in (text_put x) ≡ x
unfolding text_in text_put chunks
text_again [] = refl
text_again (b ∷ bs) =
    let test : (length (b ∷ bs) == 0) ≡ false = ne_eqb (length (b ∷ bs)) 0 (λ e. omega arith) in
    rw test refl

pub joined_again : (x : List ℕ) → joined_in (text_put x) ≡ x
unfolding joined_in text_put chunks
joined_again [] = refl
joined_again (b ∷ bs) =
    let test : (length (b ∷ bs) == 0) ≡ false = ne_eqb (length (b ∷ bs)) 0 (λ e. omega arith) in
    rw test (append-nil (b ∷ bs))

pub number_again : (n : ℕ) → number_in (number_put n) ≡ n
unfolding number_in number_put numbers
number_again n =
    elim (n == 0) as (λ t. (n == 0) ≡ t → number_in (number_put n) ≡ n) [
      | true ↦ λ e. rw e (sym (eqb-true n 0 e))
      | false ↦ λ e. rw e refl
    ] refl

pub truth_again : (b : Bool) → truth_in (truth_put b) ≡ b
unfolding truth_in truth_put number_in number_put numbers
truth_again true = refl
truth_again false = refl

pub int32_again : (n : ℤ) → int32_of (sign_extended n) ≡ n → int32_in (int32_put n) ≡ n
unfolding int32_in int32_put
int32_again n e = ap int32_of (number_again (sign_extended n)) ∙ e

pub int64_again : (n : ℤ) → cast_signed w64 (cast_unsigned w64 n) ≡ n → int64_in (int64_put n) ≡ n
unfolding int64_in int64_put
int64_again n e = ap (cast_signed w64) (number_again (cast_unsigned w64 n)) ∙ e

chunks-bytes : (xs : List (List ℕ)) → chunks (map bytes xs) ≡ xs
unfolding chunks
chunks-bytes [] = refl
chunks-bytes (x ∷ xs) = ap (λ (ys : List (List ℕ)). x ∷ ys) (chunks-bytes xs)

pub texts_again : (xs : List (List ℕ)) → texts_in (texts_put xs) ≡ xs
unfolding texts_in texts_put
texts_again xs = chunks-bytes xs

-- the message reads back
abbrev pub ReadsBack : {A : Type 0} → (A → List Field) → (List Field → Result A MessageFault) → A → Type 0
ReadsBack fields from x = from (fields_in (fields_bytes (fields x))) ≡ Ok x

pub none_again : {A : Type 0} (fields : A → List Field) (from : List Field → Result A MessageFault) → one_in from (one_put fields None) ≡ Ok None
unfolding one_in one_put chunks
none_again fields from = refl

pub some_again : {A : Type 0} (fields : A → List Field) (from : List Field → Result A MessageFault) (x : A) → ReadsBack fields from x → one_in from (one_put fields (Some x)) ≡ Ok (Some x)
unfolding one_in one_put chunks
some_again fields from x e = rw (append-nil (fields_bytes (fields x)), e) refl

pub each_again : {A : Type 0} (fields : A → List Field) (from : List Field → Result A MessageFault) (Can : A → Type 0) (xs : List A)
    → AllByRecursion (λ x. Can x → ReadsBack fields from x) xs → AllByRecursion Can xs → each_in from (each_put fields xs) ≡ Ok xs
unfolding each_in each_put chunks
each_again fields from Can [] back can = refl
each_again fields from Can (x ∷ xs) back can = rw (back.0 can.0, each_again fields from Can xs back.1 can.1) refl

pub each_again_at : {A : Type 0} (fields : A → List Field) (from : List Field → Result A MessageFault) (Can : A → Type 0) (xs : List A) (i : ℕ) → length xs ≤ i
    → AllByRecursion (λ x. Can x → ReadsBack fields from x) (take i xs) → AllByRecursion Can xs → each_in from (each_put fields xs) ≡ Ok xs
each_again_at fields from Can xs i le back can = each_again fields from Can xs (subst (λ ys. AllByRecursion (λ x. Can x → ReadsBack fields from x) ys) (take_all i xs le) back) can

-- ---- pieces of one message

pub one_of_none : {A : Type 0} (from : List Field → Result A MessageFault) (pieces : List (List ℕ)) → length pieces ≡ 0 → one_of from pieces ≡ Ok None
one_of_none from [] e = refl
one_of_none from (piece ∷ pieces) e = absurd (omega arith)

pub one_of_ok : {A : Type 0} (from : List Field → Result A MessageFault) (pieces : List (List ℕ)) (x : A) → 0 < length pieces → from (fields_in (concat pieces)) ≡ Ok x → one_of from pieces ≡ Ok (Some x)
one_of_ok from [] x lt e = absurd (omega arith)
one_of_ok from (piece ∷ pieces) x lt e = rw e refl

pub one_of_err : {A : Type 0} (from : List Field → Result A MessageFault) (pieces : List (List ℕ)) (fault : MessageFault) → 0 < length pieces → from (fields_in (concat pieces)) ≡ Err fault → one_of from pieces ≡ Err fault
one_of_err from [] fault lt e = absurd (omega arith)
one_of_err from (piece ∷ pieces) fault lt e = rw e refl

-- ---- parts

pub part_is_text : (part : Part) (b : List ℕ) → part ≡ text → IsUtf8 b → IsPart part (bytes b)
part_is_text part b e u = rw e (is_utf8-from_IsUtf8 b u)

pub part_is_anything : (part : Part) (b : List ℕ) → part ≡ anything → IsPart part (bytes b)
part_is_anything part b e = rw e tt

pub part_of_varint : (part : Part) (n : ℕ) → IsPart part (varint n)
part_of_varint anything n = tt
part_of_varint text n = tt
part_of_varint (message parts) n = tt

-- what holds of each field of a number that is bytes holds of their bytes
chunk_first : (Q : List ℕ → Type 0) (c : Content) (cs : List Content) → ((b : List ℕ) → c ≡ bytes b → Q b) → AllByRecursion Q (chunks cs) → AllByRecursion Q (chunks (c ∷ cs))
unfolding chunks
chunk_first Q (bytes b) cs h a = (h b refl, a)
chunk_first Q (varint n) cs h a = a
chunk_first Q (fixed64 n) cs h a = a
chunk_first Q (fixed32 n) cs h a = a

pub chunks_each : (parts : ℕ → Part) (Q : List ℕ → Type 0) (n : ℕ) (fs : List Field) → ((b : List ℕ) → IsPart (parts n) (bytes b) → Q b)
    → AllByRecursion (λ (f : Field). IsPart (parts f.number) f.content) fs → AllByRecursion Q (chunks (contents n fs))
unfolding chunks
chunks_each parts Q n [] h a = tt
chunks_each parts Q n (f ∷ fs) h a =
    elim (f.number == n) as (λ t. (f.number == n) ≡ t → AllByRecursion Q (chunks (contents n (f ∷ fs)))) [
      | true ↦ λ e. rw e (chunk_first Q f.content (contents n fs) (λ b is. h b (rw (eqb-true f.number n e, is) at a.0)) (chunks_each parts Q n fs h a.1))
      | false ↦ λ e. rw e (chunks_each parts Q n fs h a.1)
    ] refl

-- ---- one more field

pub chunks_push_some : (n : ℕ) (fs : List Field) (f : Field) (b : List ℕ) → chunk_in n f ≡ Some b → chunks (contents n (fs ++ f ∷ [])) ≡ chunks (contents n fs) ++ b ∷ []
unfolding chunks
chunks_push_some n fs f b e =
    elim (f.number == n) as (λ t. (f.number == n) ≡ t → chunks (contents n (fs ++ f ∷ [])) ≡ chunks (contents n fs) ++ b ∷ []) [
      | true ↦ λ is.
          let one : chunk_of f.content ≡ Some b = rw is at e in
          rw (contents-append n fs (f ∷ []), is, filter_map-append chunk_of (contents n fs) (f.content ∷ []), one) refl
      | false ↦ λ is. absurd (cc (rw is at e))
    ] refl

pub chunks_push_none : (n : ℕ) (fs : List Field) (f : Field) → chunk_in n f ≡ None → chunks (contents n (fs ++ f ∷ [])) ≡ chunks (contents n fs)
unfolding chunks
chunks_push_none n fs f e =
    elim (f.number == n) as (λ t. (f.number == n) ≡ t → chunks (contents n (fs ++ f ∷ [])) ≡ chunks (contents n fs)) [
      | true ↦ λ is.
          let one : chunk_of f.content ≡ None = rw is at e in
          rw (contents-append n fs (f ∷ []), is, filter_map-append chunk_of (contents n fs) (f.content ∷ []), one) (append-nil (filter_map chunk_of (contents n fs)))
      | false ↦ λ is. rw (contents-append n fs (f ∷ []), is) (ap (filter_map chunk_of) (append-nil (contents n fs)))
    ] refl

last_or-push : {A : Type 0} (o : Option A) (xs : List A) (x : A) → last_or o (xs ++ x ∷ []) ≡ Some x
last_or-push o [] x = refl
last_or-push o (y ∷ ys) x = last_or-push (Some y) ys x

pub text_push_some : (n : ℕ) (fs : List Field) (f : Field) (b : List ℕ) → chunk_in n f ≡ Some b → text_in (contents n (fs ++ f ∷ [])) ≡ b
unfolding text_in
text_push_some n fs f b e = rw (chunks_push_some n fs f b e) (ap (λ (o : Option (List ℕ)). unwrap_or o []) (last_or-push None (chunks (contents n fs)) b))

pub text_push_none : (n : ℕ) (fs : List Field) (f : Field) → chunk_in n f ≡ None → text_in (contents n (fs ++ f ∷ [])) ≡ text_in (contents n fs)
unfolding text_in
text_push_none n fs f e = rw (chunks_push_none n fs f e) refl

pub number_push_some : (n : ℕ) (fs : List Field) (f : Field) (v : ℕ) → varint_in n f ≡ Some v → number_in (contents n (fs ++ f ∷ [])) ≡ v
unfolding number_in numbers
number_push_some n fs f v e =
    elim (f.number == n) as (λ t. (f.number == n) ≡ t → number_in (contents n (fs ++ f ∷ [])) ≡ v) [
      | true ↦ λ is.
          let one : number_of f.content ≡ Some v = rw is at e in
          rw (contents-append n fs (f ∷ []), is, filter_map-append number_of (contents n fs) (f.content ∷ []), one) (ap (λ (o : Option ℕ). unwrap_or o 0) (last_or-push None (filter_map number_of (contents n fs)) v))
      | false ↦ λ is. absurd (cc (rw is at e))
    ] refl

pub number_push_none : (n : ℕ) (fs : List Field) (f : Field) → varint_in n f ≡ None → number_in (contents n (fs ++ f ∷ [])) ≡ number_in (contents n fs)
unfolding number_in numbers
number_push_none n fs f e =
    elim (f.number == n) as (λ t. (f.number == n) ≡ t → number_in (contents n (fs ++ f ∷ [])) ≡ number_in (contents n fs)) [
      | true ↦ λ is.
          let one : number_of f.content ≡ None = rw is at e in
          rw (contents-append n fs (f ∷ []), is, filter_map-append number_of (contents n fs) (f.content ∷ []), one) (ap (λ (vs : List ℕ). unwrap_or (last_or None vs) 0) (append-nil (filter_map number_of (contents n fs))))
      | false ↦ λ is. rw (contents-append n fs (f ∷ []), is) (ap (λ (cs : List Content). unwrap_or (last_or None (filter_map number_of cs)) 0) (append-nil (contents n fs)))
    ] refl

pub concat_push : (xs : List (List ℕ)) (x : List ℕ) → concat (xs ++ x ∷ []) ≡ concat xs ++ x
concat_push [] x = append-nil x
concat_push (y ∷ ys) x = ap (λ (t : List ℕ). y ++ t) (concat_push ys x) ∙ sym (append_assoc y (concat ys) x)

-- ---- what the parts say of values

all_or : (P : List ℕ → Type 0) (o : Option (List ℕ)) (xs : List (List ℕ)) (d : List ℕ) → P (unwrap_or o d) → AllByRecursion P xs → P (unwrap_or (last_or o xs) d)
all_or P o [] d first each = first
all_or P o (x ∷ xs) d first each = all_or P (Some x) xs d each.0 each.1

utf8_of : (part : Part) (b : List ℕ) → part ≡ text → IsPart part (bytes b) → IsUtf8 b
utf8_of part b e h =
    let u : IsPart text (bytes b) = subst (λ (p : Part). IsPart p (bytes b)) e h in
    IsUtf8-from_is_utf8 b u

message_of : (parts : ℕ → Part) (part : Part) (b : List ℕ) → part ≡ message parts → IsPart part (bytes b) → IsMessage parts b
message_of parts part b e h = subst (λ (p : Part). IsPart p (bytes b)) e h

pub chunks_utf8 : (parts : ℕ → Part) (n : ℕ) (fs : List Field) → parts n ≡ text → HasParts parts fs → AllByRecursion IsUtf8 (chunks (contents n fs))
chunks_utf8 parts n fs e all = chunks_each parts IsUtf8 n fs (λ b h. utf8_of (parts n) b e h) all

pub text_utf8 : (parts : ℕ → Part) (n : ℕ) (fs : List Field) → parts n ≡ text → HasParts parts fs → IsUtf8 (text_in (contents n fs))
unfolding text_in
text_utf8 parts n fs e all = all_or IsUtf8 None (chunks (contents n fs)) [] IsUtf8-nil (chunks_utf8 parts n fs e all)

pub chunks_messages : (parts inner : ℕ → Part) (n : ℕ) (fs : List Field) → parts n ≡ message inner → HasParts parts fs → AllByRecursion (IsMessage inner) (chunks (contents n fs))
chunks_messages parts inner n fs e all = chunks_each parts (IsMessage inner) n fs (λ b h. message_of inner (parts n) b e h) all

-- ---- what always holds

pub all_unit : {A : Type 0} (xs : List A) → AllByRecursion (λ x. Unit {0}) xs
all_unit [] = tt
all_unit (x ∷ xs) = (tt, all_unit xs)

pub some_unit : {A : Type 0} (o : Option A) → IfSome o (λ x. Unit {0})
some_unit None = tt
some_unit (Some x) = tt
