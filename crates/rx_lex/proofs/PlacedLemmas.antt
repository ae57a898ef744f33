-- The pieces of a text, one by one.
use Rattle.std.proofs.Common.{◌≡◌, ℕ, zero, suc, ◌<◌, List, [], ◌∷◌, length, refl, ap, arith}
use Rattle.rx_lex.specs.Letters.{Letter}
use Rattle.rx_lex.specs.Pieces.{front, piece, Piece}
use Rattle.rx_lex.specs.Line.{wants_header}
use Rattle.rx_lex.specs.Directives.{Placed, placed, behind}
use Rattle.rx_lex.proofs.ShorterLemmas.{front_short}

-- any count above the number of letters gives all pieces
pub placed_enough : (m n : ℕ) (line : List Piece) (ls : List Letter) → length ls < m → length ls < n → placed m line ls ≡ placed n line ls
placed_enough zero n line ls h k = absurd (omega arith)
placed_enough (suc m) zero line ls h k = absurd (omega arith)
placed_enough (suc m) (suc n) line [] h k = refl
placed_enough (suc m) (suc n) line (l ∷ ls) h k =
    let first = front (wants_header line) l.byte ls in
    let p = piece first (l ∷ ls) in
    let at : Placed = record { before = line; piece = p } in
    let short = front_short (wants_header line) l.byte ls in
    ap (λ rest. at ∷ rest) (placed_enough m n (behind line p) first.rest (omega (arith, short)) (omega (arith, short)))

abbrev pub pieces_from : List Piece → List Letter → List Placed
pieces_from line ls = placed (suc (length ls)) line ls

pub pieces_step : (line : List Piece) (l : Letter) (ls : List Letter) →
    let first = front (wants_header line) l.byte ls in
    let p = piece first (l ∷ ls) in
    pieces_from line (l ∷ ls) ≡ (record { before = line; piece = p }) ∷ pieces_from (behind line p) first.rest
pieces_step line l ls =
    let first = front (wants_header line) l.byte ls in
    let p = piece first (l ∷ ls) in
    let at : Placed = record { before = line; piece = p } in
    let short = front_short (wants_header line) l.byte ls in
    ap (λ rest. at ∷ rest) (placed_enough (suc (length ls)) (suc (length first.rest)) (behind line p) first.rest (omega (arith, short)) (omega (arith, short)))
