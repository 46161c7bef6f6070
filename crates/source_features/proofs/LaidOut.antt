-- A document has its layout once the client has made the edit.
use Rattle.std.proofs.Common.{◌≡◌, ℕ, Bool, true, false, cond, List, [], ◌∷◌, ◌++◌, None, Some, drop, length, option_map, take}
use Rattle.std.proofs.Common.{refl, sym, ap, ap₂, ◌∙◌, arith}
use Rattle.std.specs.Prelude.{max}
use Rattle.std.proofs.lemmas.List.{append-nil, drop_all}
use Rattle.source_format.specs.Sources.{formatted_source}
use Rattle.source_places.specs.Position.{PositionsAreInverse, is_start, offset_of, position_of}
use Rattle.source_places.specs.Splicing.{spliced}
use Rattle.source_features.specs.Formatting.{EditsLayOut, LayoutSeen, client_laid, whole_edit}

-- the end of a text begins no byte within a character
starts_at_end : (before : ℕ) (text : List ℕ) → is_start before text (length text) ≡ true
starts_at_end before [] = refl
starts_at_end before (x ∷ xs) = starts_at_end x xs

first_place : (text : List ℕ) → position_of text 0 ≡ record { line = 0; column = 0 }
first_place [] = refl
first_place (x ∷ xs) = refl

pub edit_is : (same utf8 : Bool) (laid : List ℕ) (make : List ℕ → LayoutSeen) (edit : LayoutSeen)
    → cond same None (option_map make (cond utf8 (Some laid) None)) ≡ Some edit → make laid ≡ edit
edit_is true utf8 laid make edit e = absurd cc
edit_is false true laid make edit e = cc
edit_is false false laid make edit e = absurd cc

none_taken : (text : List ℕ) → take 0 text ≡ []
none_taken [] = refl
none_taken (x ∷ xs) = refl

all_exchanged : (text new : List ℕ) (start end : ℕ) → start ≡ 0 → end ≡ length text → spliced text start end new ≡ new
all_exchanged text new start end first last =
    let most : max 0 (length text) ≡ length text = omega arith in
    let gone : drop (length text) text ≡ [] = drop_all (length text) text (omega arith) in
    ap₂ (λ (i j : ℕ). spliced text i j new) first last
    ∙ ap (λ (n : ℕ). take 0 text ++ new ++ drop n text) most
    ∙ ap₂ (λ (front back : List ℕ). front ++ new ++ back) (none_taken text) gone
    ∙ append-nil new

pub edits_lay : PositionsAreInverse → EditsLayOut
edits_lay inverse text edit begins e =
    let laid = formatted_source 80 text in
    let is : whole_edit text laid ≡ edit = edit_is _ _ laid (whole_edit text) edit e in
    let first : offset_of text (record { line = 0; column = 0 }) ≡ 0 =
    ap (offset_of text) (sym (first_place text)) ∙ inverse text 0 (omega arith) begins in
    let last : offset_of text (position_of text (length text)) ≡ length text = inverse text (length text) (omega arith) (starts_at_end 0 text) in
    ap (client_laid text) (sym is) ∙ all_exchanged text laid _ _ first last
