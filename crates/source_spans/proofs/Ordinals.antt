-- The items of a block as they are seen, next to those that are read.
use Rattle.std.proofs.Common.{◌≡◌, ℕ, suc, ◌+◌, ◌==◌, ◌||◌, ◌&&◌, Bool, true, false, cond, All, List, [], ◌∷◌, length, map, slice_get, Option, Some, None}
use Rattle.std.proofs.Common.{refl, sym, ap, ap₂, subst, ◌∙◌, arith, zero-add, zero, ◌++◌}
use Rattle.std.specs.List.{find, position_or_len}
use Rattle.std.specs.Option.{option_and_then, option_map}
use Rattle.std.specs.Prelude.{nat_lt}
use Rattle.std.proofs.lemmas.Simd.{map-map}
use Rattle.std.proofs.lemmas.List.Elements.{All-append, All-cons, All-nil}
use Rattle.std.proofs.lemmas.List.Folds.{find_at}
use Rattle.std.proofs.lemmas.Bool.{eq-eqb, ltb-false, ne_eqb}
use Rattle.std.proofs.lemmas.Option.{slice_get_past}
use Rattle.ti_text.specs.WhiteSpace.{is_white_space}
use Rattle.ti_source.specs.Folding.{Folds, PlacedByte}
use Rattle.ti_source.specs.Items.{Statement, bytes, piece_of, takes, without_front}
use Rattle.ti_source.specs.Judging.{AreJudged, IsJudged, Judged, item_and_rest, item_ignored, item_judged, items_at, items_from, no_item}
use Rattle.ti_source.specs.Parsing.{reading_of_text}
use Rattle.ti_source.specs.Reading.{ReadItem, Reading, Said}
use Rattle.ti_source.specs.Verdicts.{Verdict, accepted, accepted_odd, refused, items_by, said_by}
use Rattle.ti_source.specs.inside.Verdicts.{verdict_of}
use Rattle.ti_source.proofs.ItemLaws.{one_statement}
use Rattle.ti_source.proofs.JudgingLaws.{one_verdict}
use Rattle.ti_source.proofs.ReadingLaws.{has_reading}
use Rattle.source_spans.specs.Folding.{bytes_at, folded_of, in_comment, without_breaks, without_comments}
use Rattle.source_spans.specs.Ordinals.{IsTextOf, OrdinalsAreOfItems, OrdinalsAreOfTouched, SayingsAreRead, SeenItemsAreRead}
use Rattle.source_spans.specs.Parts.{field_of, items_after, rest_of, with_first}
use Rattle.source_spans.specs.Subjects.{is_on, items_of}
use Rattle.source_spans.proofs.Computing.{left_of}
use Rattle.source_spans.proofs.Itemizing.{items_are, rest_is}

-- ---- what is cut out of a text is cut out of its bytes alone

-- a byte without its place
abbrev plain : PlacedByte → PlacedByte
plain x = (x.0, 0)

either_way : {A B : Type 0} (f : A → B) (b : Bool) (x y : A) → f (cond b x y) ≡ cond b (f x) (f y)
either_way f true x y = refl
either_way f false x y = refl

plain_comments : (comment : Bool) (before : ℕ) (text : List PlacedByte) → map plain (without_comments comment before text)
    ≡ without_comments comment before (map plain text)
plain_comments comment before [] = refl
plain_comments comment before (x ∷ xs) =
    let b = in_comment comment before x.0 in
    either_way (map plain) b (without_comments true x.0 xs) (x ∷ without_comments false x.0 xs)
    ∙ ap₂ (λ (out kept : List PlacedByte). cond b out (plain x ∷ kept)) (plain_comments true x.0 xs) (plain_comments false x.0 xs)

plain_breaks : (joining : Bool) (text : List PlacedByte) → map plain (without_breaks joining text) ≡ without_breaks joining (map plain text)
plain_breaks joining [] = refl
plain_breaks joining (x ∷ xs) =
    let b = x.0 == 10 || (joining && is_white_space x.0) in
    either_way (map plain) b (without_breaks true xs) (x ∷ without_breaks false xs)
    ∙ ap₂ (λ (out kept : List PlacedByte). cond b out (plain x ∷ kept)) (plain_breaks true xs) (plain_breaks false xs)

plain_rest : (text : List PlacedByte) → map plain (rest_of text) ≡ rest_of (map plain text)
plain_rest [] = refl
plain_rest (x ∷ xs) = either_way (map plain) (x.0 == 44) xs (rest_of xs) ∙ ap (cond (x.0 == 44) (map plain xs)) (plain_rest xs)

plain_first : (x : PlacedByte) (parts : List (List PlacedByte)) → map (map plain) (with_first x parts) ≡ with_first (plain x) (map (map plain) parts)
plain_first x [] = refl
plain_first x (part ∷ parts) = refl

plain_items : (before : ℕ) (text : List PlacedByte) → map (map plain) (items_after before text) ≡ items_after before (map plain text)
plain_items before [] = refl
plain_items before (x ∷ []) = either_way (map (map plain)) (x.0 == 44) ([] ∷ [] ∷ []) ((x ∷ []) ∷ [])
plain_items before (x ∷ y ∷ ys) =
    let b = x.0 == 44 in
    let t = takes before x.0 y.0 in
    let cut = [] ∷ items_after 44 (y ∷ ys) in
    let pair = with_first x (with_first y (items_after y.0 ys)) in
    let single = with_first x (items_after x.0 (y ∷ ys)) in
    let pairs = plain_first x (with_first y (items_after y.0 ys))
    ∙ ap (with_first (plain x)) (plain_first y (items_after y.0 ys) ∙ ap (with_first (plain y)) (plain_items y.0 ys)) in
    let singles = plain_first x (items_after x.0 (y ∷ ys)) ∙ ap (with_first (plain x)) (plain_items x.0 (y ∷ ys)) in
    either_way (map (map plain)) b cut (cond t pair single)
    ∙ ap₂ (cond b) (ap (λ (items : List (List PlacedByte)). [] ∷ items) (plain_items 44 (y ∷ ys)))
    (either_way (map (map plain)) t pair single ∙ ap₂ (cond t) pairs singles)

plain_front : (item : List PlacedByte) → map plain (without_front item) ≡ without_front (map plain item)
plain_front [] = refl
plain_front (x ∷ xs) = either_way (map plain) (is_white_space x.0) (without_front xs) (x ∷ xs)
    ∙ ap (λ (t : List PlacedByte). cond (is_white_space x.0) t (plain x ∷ map plain xs)) (plain_front xs)

-- the text of an item as it is read
abbrev text_read : List PlacedByte → List ℕ
text_read item = bytes (without_front item)

plain_read : (item : List PlacedByte) → text_read item ≡ text_read (map plain item)
plain_read item = sym (map-map (λ (x : PlacedByte). x.0) plain (without_front item)) ∙ ap bytes (plain_front item)

plain_reads : (items : List (List PlacedByte)) → map text_read items ≡ map text_read (map (map plain) items)
plain_reads [] = refl
plain_reads (item ∷ items) = ap₂ (λ (t : List ℕ) (ts : List (List ℕ)). t ∷ ts) (plain_read item) (plain_reads items)

-- the texts of the items of a folded text
texts_in : (text : List PlacedByte) → map text_read (items_after 44 (rest_of text)) ≡ map text_read (items_after 44 (rest_of (map plain text)))
texts_in text =
    plain_reads (items_after 44 (rest_of text)) ∙ ap (map text_read) (plain_items 44 (rest_of text) ∙ ap (items_after 44) (plain_rest text))

-- the same bytes have the same items and the same names field
pub same_texts : (one other : List PlacedByte) → bytes one ≡ bytes other
    → map (λ (item : List PlacedByte). bytes (without_front item)) (items_after 44 (rest_of one))
    ≡ map (λ (item : List PlacedByte). bytes (without_front item)) (items_after 44 (rest_of other))
same_texts one other e =
    let same : map plain one ≡ map plain other =
    sym (map-map (λ (b : ℕ). (b, 0)) (λ (x : PlacedByte). x.0) one) ∙ ap (map (λ (b : ℕ). (b, 0))) e
    ∙ map-map (λ (b : ℕ). (b, 0)) (λ (x : PlacedByte). x.0) other in
    texts_in one ∙ ap (λ (t : List PlacedByte). map text_read (items_after 44 (rest_of t))) same ∙ sym (texts_in other)

pub same_field : (one other : List PlacedByte) → bytes one ≡ bytes other → bytes (field_of one) ≡ bytes (field_of other)
same_field [] [] e = refl
same_field [] (y ∷ ys) e = absurd cc
same_field (x ∷ xs) [] e = absurd cc
same_field (x ∷ xs) (y ∷ ys) e =
    let same : x.0 ≡ y.0 = cc in
    let rest : bytes xs ≡ bytes ys = cc in
    either_way bytes (x.0 == 44) [] (x ∷ field_of xs) ∙ ap₂ (λ (n : ℕ) (t : List ℕ). cond (n == 44) [] (n ∷ t)) same (same_field xs ys rest)
    ∙ sym (either_way bytes (y.0 == 44) [] (y ∷ field_of ys))

-- ---- a block

at_plain : (offset : ℕ) (block : List ℕ) → map plain (bytes_at offset block) ≡ map (λ b. (b, 0)) block
at_plain offset [] = refl
at_plain offset (b ∷ bs) = ap (λ (t : List PlacedByte). (b, 0) ∷ t) (at_plain (suc offset) bs)

folded_plain : (text : List PlacedByte) → map plain (without_breaks false (without_comments false 10 text))
    ≡ without_breaks false (without_comments false 10 (map plain text))
folded_plain text = plain_breaks false (without_comments false 10 text) ∙ ap (without_breaks false) (plain_comments false 10 text)

-- the folded text that is read has the bytes of the one that is seen
same_bytes : (block : List ℕ) (text : List PlacedByte) → Folds block text → map plain text ≡ map plain (folded_of block)
same_bytes block text f =
    let whole : map plain f.whole ≡ map plain (bytes_at 0 block) =
    sym (map-map (λ (b : ℕ). (b, 0)) (λ (x : PlacedByte). x.0) f.whole) ∙ ap (map (λ (b : ℕ). (b, 0))) f.are_placed.bytes ∙ sym (at_plain 0 block) in
    ap (map plain) (left_of f.whole f.lines text f.are_lines f.joins) ∙ folded_plain f.whole
    ∙ ap (λ (t : List PlacedByte). without_breaks false (without_comments false 10 t)) whole ∙ sym (folded_plain (bytes_at 0 block))

pub seen_are_read : SeenItemsAreRead
seen_are_read block reading p =
    let same = same_bytes block p.text p.folds in
    let items : p.items ≡ items_after 44 (rest_of p.text) = items_are 44 p.rest p.items p.cut ∙ ap (items_after 44) (rest_is p.text p.field p.rest p.begins) in
    map-map bytes without_front (items_after 44 (rest_of (folded_of block)))
    ∙ texts_in (folded_of block) ∙ ap (λ (t : List PlacedByte). map text_read (items_after 44 (rest_of t))) (sym same)
    ∙ sym (ap (map text_read) items ∙ texts_in p.text)

-- ---- ordinals

-- an item of this ordinal says what the text states that is so far along
abbrev IsFound : ℕ → List (List ℕ) → ReadItem → Type 0
IsFound from texts item = (at : ℕ) × (text : List ℕ) × (item.ordinal ≡ at + from) × (slice_get texts at ≡ Some text) × IsTextOf text item.said

later : (from : ℕ) (text : List ℕ) (texts : List (List ℕ)) (items : List ReadItem) → All (IsFound (from + 1) texts) items
    → All (IsFound from (text ∷ texts)) items
later from text texts items all k d within =
    let (at, found, ordinal, is, says) = all k d within in
    (suc at, found, omega (arith, ordinal), is, says)

one_found : (from line : ℕ) (text : List ℕ) (texts : List (List ℕ)) (said : Said) → IsTextOf text said
    → All (IsFound from (text ∷ texts)) (record { ordinal = from; line = line; said = said } ∷ [])
one_found from line text texts said says =
    All-cons (IsFound from (text ∷ texts)) (record { ordinal = from; line = line; said = said }) [] (0, text, sym (zero-add from), refl, says)
    (All-nil (IsFound from (text ∷ texts)))

found_by : (from line : ℕ) (text : List ℕ) (texts : List (List ℕ)) (v : Verdict) → ((said : Said) → said_by v ≡ Some said → IsTextOf text said)
    → All (IsFound from (text ∷ texts)) (items_by from line v)
found_by from line text texts (accepted said) says = one_found from line text texts said (says said refl)
found_by from line text texts (accepted_odd said) says = one_found from line text texts said (says said refl)
found_by from line text texts (refused code) says = All-nil (IsFound from (text ∷ texts))

here : (from : ℕ) (item : List PlacedByte) (texts : List (List ℕ)) (o : Option Judged) → IsJudged item o
    → All (IsFound from (text_read item ∷ texts)) (items_at from o)
here from _ texts _ (item_ignored item states) = All-nil (IsFound from (text_read item ∷ texts))
here from _ texts _ (item_judged item s v states judges) =
    found_by from (piece_of item).line (text_read item) texts v
    (λ said accepts. record { statement = s; verdict = v; states = states; judges = judges; accepts = accepts })

all_found : (from : ℕ) (items : List (List PlacedByte)) (judged : List (Option Judged)) → AreJudged items judged
    → All (IsFound from (map text_read items)) (items_from from judged)
all_found from _ _ no_item = All-nil (IsFound from [])
all_found from _ _ (item_and_rest {item = item} {items = items} {outcome = outcome} {outcomes = outcomes} first rest) =
    All-append (IsFound from (text_read item ∷ map text_read items)) (items_at from outcome) (items_from (from + 1) outcomes)
    (here from item (map text_read items) outcome first)
    (later from (text_read item) (map text_read items) (items_from (from + 1) outcomes) (all_found (from + 1) items outcomes rest))

pub ordinals_of_items : OrdinalsAreOfItems
ordinals_of_items block k d within =
    let p = has_reading block in
    let texts = map bytes (items_of (folded_of block)) in
    let items : (reading_of_text block).items ≡ items_from 0 p.judged = ap (λ (r : Reading). r.items) p.is in
    let all = subst (All (IsFound 0 (map text_read p.items))) (sym items) (all_found 0 p.items p.judged p.are_judged) in
    let (at, text, ordinal, is, says) = subst (λ (t : List (List ℕ)). All (IsFound 0 t) (reading_of_text block).items)
    (sym (seen_are_read block (reading_of_text block) p)) all k d within in
    (text, ap (slice_get texts) (omega (arith, ordinal)) ∙ is, says)

-- what the accepted item of an ordinal says
abbrev said_in : ℕ → List ReadItem → Option Said
said_in ordinal items = option_map (λ (item : ReadItem). item.said) (find (λ (item : ReadItem). item.ordinal == ordinal) items)

said_by_verdict : (from line : ℕ) (v : Verdict) (said : Said) (rest : List ReadItem) → said_by v ≡ Some said
    → said_in from (items_by from line v ++ rest) ≡ Some said
said_by_verdict from line (accepted x) said rest e = rw (eq-eqb from from refl) e
said_by_verdict from line (accepted_odd x) said rest e = rw (eq-eqb from from refl) e
said_by_verdict from line (refused code) said rest e = cc

past_verdict : (from line ordinal : ℕ) (v : Verdict) (rest : List ReadItem) → (from == ordinal) ≡ false
    → said_in ordinal (items_by from line v ++ rest) ≡ said_in ordinal rest
past_verdict from line ordinal (accepted x) rest other = rw other refl
past_verdict from line ordinal (accepted_odd x) rest other = rw other refl
past_verdict from line ordinal (refused code) rest other = refl

past_item : (from ordinal : ℕ) (o : Option Judged) (rest : List ReadItem) → (from == ordinal) ≡ false
    → said_in ordinal (items_at from o ++ rest) ≡ said_in ordinal rest
past_item from ordinal None rest other = refl
past_item from ordinal (Some j) rest other = past_verdict from j.line ordinal j.verdict rest other

said_here : (from : ℕ) (item : List PlacedByte) (said : Said) (o : Option Judged) (rest : List ReadItem) → IsJudged item o → IsTextOf (text_read item) said
    → said_in from (items_at from o ++ rest) ≡ Some said
said_here from _ said _ rest (item_ignored item states) t =
    let same : None ≡ Some t.statement = one_statement (text_read item) None states ∙ sym (one_statement (text_read item) (Some t.statement) t.states) in
    cc
said_here from _ said _ rest (item_judged item s v states judges) t =
    let both : Some s ≡ Some t.statement = one_statement (text_read item) (Some s) states ∙ sym (one_statement (text_read item) (Some t.statement) t.states) in
    let same : s ≡ t.statement = cc in
    let verdicts : v ≡ t.verdict =
    one_verdict s.name s.claim v judges ∙ ap (λ (x : Statement). verdict_of x.name x.claim) same
    ∙ sym (one_verdict t.statement.name t.statement.claim t.verdict t.judges) in
    said_by_verdict from (piece_of item).line v said rest (ap said_by verdicts ∙ t.accepts)

said_at : (from at : ℕ) (items : List (List PlacedByte)) (judged : List (Option Judged)) (text : List ℕ) (said : Said) → AreJudged items judged
    → slice_get (map text_read items) at ≡ Some text
    → IsTextOf text said → said_in (at + from) (items_from from judged) ≡ Some said
said_at from at _ _ text said no_item is t = absurd cc
said_at from zero _ _ text said (item_and_rest {item = item} {items = items} {outcome = outcome} {outcomes = outcomes} first rest) is t =
    let same : text ≡ text_read item = cc in
    ap (λ (n : ℕ). said_in n (items_from from (outcome ∷ outcomes))) (zero-add from)
    ∙ said_here from item said outcome (items_from (from + 1) outcomes) first (subst (λ (x : List ℕ). IsTextOf x said) same t)
said_at from (suc at) _ _ text said (item_and_rest {item = item} {items = items} {outcome = outcome} {outcomes = outcomes} first rest) is t =
    let more : suc at + from ≡ at + (from + 1) = omega arith in
    past_item from (suc at + from) outcome (items_from (from + 1) outcomes) (ne_eqb from (suc at + from) (λ e. absurd (omega (arith, e))))
    ∙ ap (λ (n : ℕ). said_in n (items_from (from + 1) outcomes)) more ∙ said_at (from + 1) at items outcomes text said rest is t

pub sayings_are_read : SayingsAreRead
sayings_are_read block ordinal text said is t =
    let p = has_reading block in
    let items : (reading_of_text block).items ≡ items_from 0 p.judged = ap (λ (r : Reading). r.items) p.is in
    let there = ap (λ (texts : List (List ℕ)). slice_get texts ordinal) (sym (seen_are_read block (reading_of_text block) p)) ∙ is in
    let so : ordinal ≡ ordinal + 0 = omega arith in
    ap (said_in ordinal) items ∙ ap (λ (n : ℕ). said_in n (items_from 0 p.judged)) so ∙ said_at 0 ordinal p.items p.judged text said p.are_judged there t

-- ---- the item that an offset is on

found_there : {X : Type 0} (xs : List X) (at : ℕ) (b : Bool) → (b ≡ false → slice_get xs at ≡ None)
    → option_and_then (slice_get xs) (cond b (Some at) None) ≡ slice_get xs at
found_there xs at true past = refl
found_there xs at false past = sym (past refl)

pub ordinals_of_touched : OrdinalsAreOfTouched
ordinals_of_touched block offset =
    let items = items_of (folded_of block) in
    found_there items (position_or_len (is_on offset) items) (nat_lt (position_or_len (is_on offset) items) (length items))
    (λ past. slice_get_past items (position_or_len (is_on offset) items) (ltb-false (position_or_len (is_on offset) items) (length items) past))
    ∙ sym (find_at (is_on offset) items)
