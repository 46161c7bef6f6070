-- Each block has one reading, and what a reader has read so far.
use Rattle.std.proofs.Common.{◌≡◌, ℕ, ◌+◌, ◌≤◌, List, [], ◌∷◌, ◌++◌, map, length, Option, Some, None, refl, sym, ap, ◌∙◌, append_assoc, arith, inl, inr, subst}
use Rattle.ti_source.specs.Folding.{PlacedByte}
use Rattle.ti_source.specs.inside.Folding.{folding_of}
use Rattle.ti_source.specs.Items.{AreItems, Statement, States, Claim, ItemPiece, piece_of}
use Rattle.ti_source.specs.inside.Items.{field_of, after_field}
use Rattle.ti_source.specs.Stating.{statement_of}
use Rattle.ti_source.specs.Walking.{block_items}
use Rattle.ti_source.specs.inside.Verdicts.{read_claim}
use Rattle.ti_source.specs.Verdicts.{ReadClaim, reads_number, reads_text, IsReadAs, flag_read, number_read_as, text_read_as, cancel_read}
use Rattle.ti_source.proofs.FoldingLaws.{folds_computed, only_folded}
use Rattle.ti_source.proofs.JudgingLaws.{is_read, one_spelling}
use Rattle.ti_spelling.proofs.NumberLemmas.{one_reading as one_number}
use Rattle.ti_text.specs.WhiteSpace.{is_white_space}
use Rattle.std.proofs.lemmas.Bool.{cases_Bool}
use Rattle.ti_source.proofs.ItemLaws.{has_field, one_field, has_items, one_items, BeginsVisible, has_statement, one_statement}
use Rattle.user_items.specs.Verdicts.{UserVerdict, UserJudges, verdict_on}
use Rattle.user_items.specs.Reading.{UserBlock, ReadUserItem, ReadUserFault, UserJudged, IsUserJudged, states_nothing, states_another, states_user}
use Rattle.user_items.specs.Reading.{AreUserJudged, no_item, item_and_rest, reading_by, items_at, faults_at, items_from, faults_from}
use Rattle.user_items.specs.Parsing.{ReadsUserItems, user_reading_of_text}
use Rattle.user_items.specs.inside.Computed.{verdict_of, judged_with, judged_as, judged_of, AddsItem}
use Rattle.user_items.specs.Laws.{BlocksHaveOneUserReading}

piece-visible : (item : List PlacedByte) → BeginsVisible (piece_of item).text
piece-visible [] = tt
piece-visible (x ∷ xs) = elim (cases_Bool (is_white_space x.0)) [ inl w ↦ rw w (piece-visible xs) | inr v ↦ rw v v ]

one_claim : (claim : Claim) (read : ReadClaim) → IsReadAs claim read → read ≡ read_claim claim
one_claim _ _ flag_read = refl
one_claim _ _ (number_read_as {text = text} {read = read} reads) = ap reads_number (sym (one_number text read reads))
one_claim _ _ (text_read_as {value = value} {found = found} spells) = ap (reads_text value) (sym (one_spelling value found spells))
one_claim _ _ cancel_read = refl

has_verdict_of : (name : List ℕ) (claim : Claim) → UserJudges name claim (verdict_of name claim)
has_verdict_of name claim = record { read = read_claim claim; is_read = is_read claim; is = refl }

judged_by : (item : List PlacedByte) (s : Statement) (v : Option UserVerdict) → States (piece_of item).text (Some s) → UserJudges s.name s.claim v
    → IsUserJudged item (judged_with (piece_of item).line s.name v)
judged_by item s None states judges = states_another item s states judges
judged_by item s (Some v) states judges = states_user item s v states judges

judged_so : (item : List PlacedByte) (o : Option Statement) → States (piece_of item).text o → IsUserJudged item (judged_as (piece_of item).line o)
judged_so item None states = states_nothing item states
judged_so item (Some s) states = judged_by item s (verdict_of s.name s.claim) states (has_verdict_of s.name s.claim)

is_judged : (item : List PlacedByte) → IsUserJudged item (judged_of item)
is_judged item = judged_so item (statement_of (piece_of item).text) (has_statement (piece_of item).text (piece-visible item))

are_judged : (items : List (List PlacedByte)) → AreUserJudged items (map judged_of items)
are_judged [] = no_item
are_judged (item ∷ items) = item_and_rest (is_judged item) (are_judged items)

one_user_verdict : (name : List ℕ) (claim : Claim) (v : Option UserVerdict) → UserJudges name claim v → v ≡ verdict_of name claim
one_user_verdict name claim v j = j.is ∙ ap (verdict_on name claim) (one_claim claim j.read j.is_read)

one_judgement : (item : List PlacedByte) (o : Option UserJudged) → IsUserJudged item o → o ≡ judged_of item
one_judgement _ _ (states_nothing item states) = ap (judged_as (piece_of item).line) (one_statement (piece_of item).text None states)
one_judgement _ _ (states_another item s states judges) =
    ap (judged_with (piece_of item).line s.name) (one_user_verdict s.name s.claim None judges)
    ∙ ap (judged_as (piece_of item).line) (one_statement (piece_of item).text (Some s) states)
one_judgement _ _ (states_user item s v states judges) =
    ap (judged_with (piece_of item).line s.name) (one_user_verdict s.name s.claim (Some v) judges)
    ∙ ap (judged_as (piece_of item).line) (one_statement (piece_of item).text (Some s) states)

one_judging : (items : List (List PlacedByte)) (outcomes : List (Option UserJudged)) → AreUserJudged items outcomes → outcomes ≡ map judged_of items
one_judging _ _ no_item = refl
one_judging _ _ (item_and_rest {item = item} {items = items} {outcome = outcome} {outcomes = outcomes} here later) =
    ap (λ o. o ∷ outcomes) (one_judgement item outcome here) ∙ ap (λ os. judged_of item ∷ os) (one_judging items outcomes later)

has_reading : (block : List ℕ) → ReadsUserItems block (user_reading_of_text block)
unfolding user_reading_of_text
has_reading block =
    let text = folding_of block in
    record {
      text = text;
      field = field_of text;
      rest = after_field text;
      items = block_items block;
      judged = map judged_of (block_items block);
      folds = folds_computed block;
      begins = has_field text;
      cut = has_items 44 (after_field text);
      are_judged = are_judged (block_items block);
      is = refl;
    }

is_reading : (block : List ℕ) (reading : UserBlock) → ReadsUserItems block reading → reading ≡ user_reading_of_text block
unfolding user_reading_of_text
is_reading block reading p =
    let text = only_folded block p.text p.folds in
    let field = one_field p.text p.field p.rest p.begins in
    let cut : AreItems 44 (after_field (folding_of block)) p.items = subst (λ r. AreItems 44 r p.items) (field.1 ∙ ap after_field text) p.cut in
    let items : p.items ≡ block_items block = one_items 44 (after_field (folding_of block)) p.items cut in
    p.is ∙ ap reading_by (one_judging p.items p.judged p.are_judged ∙ ap (map judged_of) items)

pub one_reading : BlocksHaveOneUserReading
one_reading = record { has = has_reading; only = is_reading }

-- ---- items read one by one

-- the items of a block are read up to one with this place; those of `walk` are still to come
pub record ReadSoFar (block : List ℕ) (ordinal : ℕ) (walk : List (List PlacedByte)) (now : UserBlock) : Type 0 where
  pub items : now.items ++ items_from ordinal (map judged_of walk) ≡ items_from 0 (map judged_of (block_items block))
  pub faults : now.faults ++ faults_from ordinal (map judged_of walk) ≡ faults_from 0 (map judged_of (block_items block))
  pub few : ordinal + length walk ≤ length block + 1

pub read_more : (block : List ℕ) (ordinal : ℕ) (walk rest : List (List PlacedByte)) (item : List PlacedByte) (piece : ItemPiece) (old new : UserBlock)
    → ReadSoFar block ordinal walk old → walk ≡ item ∷ rest → piece_of item ≡ piece → AddsItem ordinal piece old new → ReadSoFar block (ordinal + 1) rest new
read_more block ordinal walk rest item piece old new h w p adds =
    let judged : judged_as piece.line (statement_of piece.text) ≡ judged_of item = ap (λ (q : ItemPiece). judged_as q.line (statement_of q.text)) (sym p) in
    record {
      items =
          ap (λ xs. xs ++ items_from (ordinal + 1) (map judged_of rest)) (adds.more_items ∙ ap (λ j. old.items ++ items_at ordinal j) judged)
          ∙ append_assoc old.items (items_at ordinal (judged_of item)) (items_from (ordinal + 1) (map judged_of rest))
          ∙ ap (λ ws. old.items ++ items_from ordinal (map judged_of ws)) (sym w) ∙ h.items;
      faults =
          ap (λ xs. xs ++ faults_from (ordinal + 1) (map judged_of rest)) (adds.more_faults ∙ ap (λ j. old.faults ++ faults_at ordinal j) judged)
          ∙ append_assoc old.faults (faults_at ordinal (judged_of item)) (faults_from (ordinal + 1) (map judged_of rest))
          ∙ ap (λ ws. old.faults ++ faults_from ordinal (map judged_of ws)) (sym w) ∙ h.faults;
      few = (let k = h.few in let l : length walk ≡ length rest + 1 = ap length w ∙ one_longer item rest in omega arith);
    }
  where
    one_longer : (item : List PlacedByte) (rest : List (List PlacedByte)) → length (item ∷ rest) ≡ length rest + 1
    one_longer item rest = omega arith

same_block : (one other : UserBlock) → one.items ≡ other.items → one.faults ≡ other.faults → one ≡ other
same_block one other e f = ap (λ (x : List ReadUserItem). record one { items = x }) e ∙ ap (λ (x : List ReadUserFault). record other { faults = x }) f

append_none : {X : Type 0} (xs : List X) → xs ≡ xs ++ []
append_none [] = refl
append_none (x ∷ xs) = ap (λ ys. x ∷ ys) (append_none xs)

pub all_read : (block : List ℕ) (ordinal : ℕ) (walk : List (List PlacedByte)) (now : UserBlock) → ReadSoFar block ordinal walk now → walk ≡ []
    → now ≡ user_reading_of_text block
unfolding user_reading_of_text
all_read block ordinal walk now h w =
    let i : now.items ≡ items_from 0 (map judged_of (block_items block)) =
    append_none now.items ∙ ap (λ ws. now.items ++ items_from ordinal (map judged_of ws)) (sym w) ∙ h.items in
    let f : now.faults ≡ faults_from 0 (map judged_of (block_items block)) =
    append_none now.faults ∙ ap (λ ws. now.faults ++ faults_from ordinal (map judged_of ws)) (sym w) ∙ h.faults in
    same_block now (user_reading_of_text block) i f

pub none_read : (block : List ℕ) (walk : List (List PlacedByte)) (now : UserBlock) → walk ≡ block_items block → length walk ≤ length block + 1
    → now.items ≡ [] → now.faults ≡ [] → ReadSoFar block 0 walk now
none_read block walk now w few i f = record {
  items = ap (λ xs. xs ++ items_from 0 (map judged_of walk)) i ∙ ap (λ ws. items_from 0 (map judged_of ws)) w;
  faults = ap (λ xs. xs ++ faults_from 0 (map judged_of walk)) f ∙ ap (λ ws. faults_from 0 (map judged_of ws)) w;
  few = omega arith;
}
