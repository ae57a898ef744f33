-- The walk over the pieces: it starts, goes on and ends.
use Rattle.std.proofs.Common.{◌≡◌, ℕ, List, [], ◌∷◌, ◌++◌, refl, ap, sym, subst, ◌∙◌, Bool, true, false, ◌||◌, ◌&&◌, append_assoc, append-nil}
use Rattle.std.specs.Prelude.{flat_map}
use Rattle.std.proofs.Math.Bool.{and-false, or-false, or_assoc}
use Rattle.rx_lex.specs.Letters.{Letter, letters, letters_at, letter_before, IsNext}
use Rattle.rx_lex.specs.Pieces.{Piece, LineEnd, Front, front, piece}
use Rattle.rx_lex.specs.Line.{any, wants_header}
use Rattle.rx_lex.specs.Directives.{Name, Placed, Found as Reading, behind, directives_of, is_hard_alone, is_hard_anywhere, is_hard_behind, is_raw, names_of}
use Rattle.rx_lex.specs.Step.{Steps, line_of, names_in}
use Rattle.rx_lex.specs.declared.line.Line.{Line}
use Rattle.rx_lex.specs.declared.step.Step.{Step}
use Rattle.rx_lex.proofs.PlacedLemmas.{pieces_from, pieces_step}
use Rattle.rx_lex.proofs.LineLemmas.{line_of_behind}
use Rattle.rx_lex.proofs.StepLemmas.{hard_by_none}

abbrev pub hard_at : Placed → Bool
hard_at at = is_hard_alone at.piece || is_hard_behind at.before at.piece

abbrev pub raw_at : Placed → Bool
raw_at at = is_raw at.piece.kind

abbrev pub names_at : Placed → List Name
names_at at = names_of at.piece

-- What was found, with what the rest gives, is what all pieces give; `anywhere` is what makes the file hard by itself.
pub record Goes (text : List ℕ) (all : List Placed) (anywhere : Bool) (line : Line) (at : ℕ) (list : List Name) (hard raw : Bool) : Type 0 where
  pub before : List Piece
  pub stands : line_of before ≡ line
  pub list_is : list ++ flat_map names_at (pieces_from before (letters_at text at)) ≡ flat_map names_at all
  pub hard_is : (hard || any hard_at (pieces_from before (letters_at text at))) ≡ (anywhere || any hard_at all)
  pub raw_is : (raw || any raw_at (pieces_from before (letters_at text at))) ≡ any raw_at all

pub goes_starts : (text : List ℕ) (at : ℕ) (line : Line) (hard : Bool) → letters_at text at ≡ letters text → line ≡ line_of []
    → hard ≡ is_hard_anywhere (letters_at text at)
    → Goes text (pieces_from [] (letters text)) (is_hard_anywhere (letters text)) line at [] hard false
goes_starts text at line hard e s h =
    let all : pieces_from [] (letters_at text at) ≡ pieces_from [] (letters text) = ap (λ (ls : List Letter). pieces_from [] ls) e in
    record {
      before = [];
      stands = sym s;
      list_is = ap (λ (xs : List Placed). flat_map names_at xs) all;
      hard_is = ap (λ (b : Bool). b || any hard_at (pieces_from [] (letters_at text at))) (h ∙ ap (λ (ls : List Letter). is_hard_anywhere ls) e)
          ∙ ap (λ (xs : List Placed). is_hard_anywhere (letters text) || any hard_at xs) all;
      raw_is = ap (λ (xs : List Placed). any raw_at xs) all;
    }

joins_list : (list names rest here all whole : List Name) → here ≡ names → all ≡ here ++ rest → list ++ all ≡ whole → (list ++ names) ++ rest ≡ whole
joins_list list names rest here all whole e f g = rw append_assoc (rw (← e) (rw (← f) g))

joins_or : (found now rest here all whole : Bool) → here ≡ now → all ≡ (here || rest) → (found || all) ≡ whole → ((found || now) || rest) ≡ whole
joins_or found now rest here all whole e f g = rw (or_assoc found now rest) (rw (← e) (rw (← f) g))

pub goes_on : (text : List ℕ) (all : List Placed) (anywhere : Bool) (line : Line) (at first next : ℕ) (list : List Name) (hard raw : Bool) (step : Step)
    → Goes text all anywhere line at list hard raw → IsNext text at first next → Steps text line first next step
    → Goes text all anywhere step.line step.end (list ++ names_in step.name) (hard || step.hard) (raw || step.raw)
goes_on text all anywhere line at first next list hard raw step g n s =
    let l : Letter = letter_before text first next in
    let ls : List Letter = letters_at text next in
    let cut : Front = front (wants_header g.before) first ls in
    let p : Piece = piece cut (l ∷ ls) in
    let here : Placed = record { before = g.before; piece = p } in
    let rest : List Placed = pieces_from (behind g.before p) (letters_at text step.end) in
    let now : Steps text (line_of g.before) first next step = subst (λ (x : Line). Steps text x first next step) (sym g.stands) s in
    let more : pieces_from g.before (letters_at text at) ≡ here ∷ rest =
    ap (λ (xs : List Letter). pieces_from g.before xs) n.is
    ∙ (pieces_step g.before l ls
    ∙ ap (λ (xs : List Letter). here ∷ pieces_from (behind g.before p) xs) now.rest) in
    record {
      before = behind g.before p;
      stands = line_of_behind g.before p ∙ now.line_is;
      list_is = joins_list list (names_in step.name) (flat_map names_at rest) (names_at here) (flat_map names_at (pieces_from g.before (letters_at text at)))
          (flat_map names_at all) now.names (ap (λ (xs : List Placed). flat_map names_at xs) more) g.list_is;
      hard_is = joins_or hard step.hard (any hard_at rest) (hard_at here) (any hard_at (pieces_from g.before (letters_at text at))) (anywhere || any hard_at all)
          now.hard (ap (λ (xs : List Placed). any hard_at xs) more) g.hard_is;
      raw_is = joins_or raw step.raw (any raw_at rest) (raw_at here) (any raw_at (pieces_from g.before (letters_at text at))) (any raw_at all)
          now.raw (ap (λ (xs : List Placed). any raw_at xs) more) g.raw_is;
    }

pub goes_next : (text : List ℕ) (all : List Placed) (anywhere : Bool) (line : Line) (at first next : ℕ) (list : List Name) (hard raw : Bool) (step : Step) (longer : List Name)
    → Goes text all anywhere line at list hard raw → IsNext text at first next → Steps text line first next step
    → longer ≡ list ++ names_in step.name → Goes text all anywhere step.line step.end longer (hard || step.hard) (raw || step.raw)
goes_next text all anywhere line at first next list hard raw step longer g n s e =
    subst (λ (xs : List Name). Goes text all anywhere step.line step.end xs (hard || step.hard) (raw || step.raw)) (sym e)
    (goes_on text all anywhere line at first next list hard raw step g n s)

-- The text's end ends its last line.
abbrev pub last_end : Piece
last_end = record { kind = LineEnd; text = []; whole = true }

wanted_only : (w d : Bool) → ((w && true && true) || (d && false)) ≡ w
wanted_only true d = refl
wanted_only false d = and-false d

end_by : (w d s p e x : Bool)
    → (w && true && true || (d && ((s && false) || false)) || (p && false) || ((e && false) || (x && false)) || (d && false)) ≡ w
end_by w d s p e x = hard_by_none w true true d s p e x false ∙ wanted_only w d

hard_at_end : (line : List Piece) → is_hard_behind line last_end ≡ wants_header line
hard_at_end line =
    let seen : Line = line_of line in end_by seen.wanted seen.directive seen.single seen.pragma seen.empty seen.exported

or_comm : (a b : Bool) → (a || b) ≡ (b || a)
or_comm true true = refl
or_comm true false = refl
or_comm false true = refl
or_comm false false = refl

pub same_reading : (a b : List Name) (c d e f : Bool) → a ≡ b → c ≡ d → e ≡ f
    → let one : Reading = record { list = a; hard = c; raw = e } in let other : Reading = record { list = b; hard = d; raw = f } in one ≡ other
same_reading a b c d e f p q r = rw (p, q, r) refl

pub goes_ends : (text : List ℕ) (line : Line) (at : ℕ) (list : List Name) (hard raw : Bool)
    → Goes text (pieces_from [] (letters text)) (is_hard_anywhere (letters text)) line at list hard raw → letters_at text at ≡ []
    → let end : Reading = record { list = list; hard = hard || line.wanted; raw = raw } in end ≡ directives_of text
goes_ends text line at list hard raw g e =
    let all : List Placed = pieces_from [] (letters text) in
    let anywhere : Bool = is_hard_anywhere (letters text) in
    let last : List Placed = (record { before = g.before; piece = last_end }) ∷ [] in
    let pieces : pieces_from g.before (letters_at text at) ≡ last = ap (λ (xs : List Letter). pieces_from g.before xs) e in
    let hard_last : any hard_at last ≡ line.wanted = or-false (is_hard_behind g.before last_end) ∙ (hard_at_end g.before ∙ ap (λ (x : Line). x.wanted) g.stands) in
    let list_done : list ++ flat_map names_at last ≡ flat_map names_at all = ap (λ (xs : List Placed). list ++ flat_map names_at xs) (sym pieces) ∙ g.list_is in
    let hard_done : (hard || any hard_at last) ≡ (anywhere || any hard_at all) = ap (λ (xs : List Placed). hard || any hard_at xs) (sym pieces) ∙ g.hard_is in
    let raw_done : (raw || any raw_at last) ≡ any raw_at all = ap (λ (xs : List Placed). raw || any raw_at xs) (sym pieces) ∙ g.raw_is in
    same_reading list (flat_map names_at all) (hard || line.wanted) (any hard_at all || anywhere) raw (any raw_at all)
    (sym (append-nil list) ∙ list_done)
    (ap (λ b. hard || b) (sym hard_last) ∙ (hard_done ∙ or_comm anywhere (any hard_at all)))
    (sym (or-false raw) ∙ raw_done)
