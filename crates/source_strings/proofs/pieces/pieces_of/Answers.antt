use Rattle.std.proofs.Common.{◌++◌, List, ap, length, map, ◌∙◌}
use Rattle.ti_formats.specs.Left.{left_of}
use Rattle.source_strings.specs.Pieces.{is_literal, piece_seen, pieces_after, stop_or}
use Rattle.source_strings.specs.Words.{words_of}
use Rattle.source_strings.specs.declared.pieces.Piece.{Piece}
use Rattle.source_strings.proofs.Reading.{nothing_read, pieces_read, stop_read}
use Rattle.source_strings.proofs.pieces.pieces_of.Goals as goal

pub returns-in_default-clause-list : goal.returns-in_default-clause-list
returns-in_default-clause-list c =
    ap (map piece_seen) c.new-list.ensures.items ∙ nothing_read c.args.format.now _ c.new-lexer.ensures.reading c.in_default.ensures.token

pub returns-in_default-clause-stop : goal.returns-in_default-clause-stop
returns-in_default-clause-stop c =
    c.end-stop.ensures.place ∙ c.in_default.ensures.stop ∙ stop_read c.args.format.now _ c.new-lexer.ensures.reading

pub returns-clause-list : goal.returns-clause-list
returns-clause-list c =
    let first = c.in-Some.first in
    let s = left_of c.next_token.new.self in
    let after = pieces_after first.place (is_literal first.token) (words_of first.token) s.tokens (stop_or (length c.args.format.now) s.stop) in
    c.in_ok-stop.ensures.list
    ∙ ap (λ (items : List Piece). map piece_seen items ++ after) c.new-list.ensures.items
    ∙ pieces_read c.args.format.now _ c.new-lexer.ensures.reading first s c.in-Some.ensures.token c.in-Some.ensures.stop

pub returns-clause-stop : goal.returns-clause-stop
returns-clause-stop c =
    c.in_ok-stop.ensures.stop ∙ c.in-Some.ensures.stop ∙ stop_read c.args.format.now _ c.new-lexer.ensures.reading
