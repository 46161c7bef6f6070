-- The items of a block are read by their texts.
use Rattle.std.proofs.Common.{◌≡◌, ◌≢◌, ℕ, zero, suc, ◌+◌, ◌<◌, ◌==◌, ◌&&◌, not, Bool, true, false, cond, List, [], ◌∷◌, ◌++◌, length, map, slice_get}
use Rattle.std.proofs.Common.{slice_set, Option, None, Some, refl, sym, ap, ◌∙◌, arith, zero-add}
use Rattle.std.specs.List.{find}
use Rattle.std.specs.Option.{option_and_then, option_map}
use Rattle.std.proofs.lemmas.Bool.{eq-eqb, ne_eqb}
use Rattle.ti_source.specs.Code.{is_of_header}
use Rattle.ti_source.specs.Folding.{PlacedByte}
use Rattle.ti_source.specs.Items.{Statement, bytes, without_front}
use Rattle.ti_source.specs.Judging.{AreJudged, IsJudged, Judged, faults_at, faults_from, header_faults, item_and_rest, item_ignored, item_judged, items_at}
use Rattle.ti_source.specs.Judging.{items_from, no_item}
use Rattle.ti_source.specs.Parsing.{names_max, reading_of_text}
use Rattle.ti_source.specs.Reading.{ReadFault, ReadItem, Reading, Said}
use Rattle.ti_source.specs.Verdicts.{Verdict, accepted, accepted_odd, code_by, faults_by, header_fault, items_by, refused, said_by}
use Rattle.ti_source.specs.declared.code.Code.{Code}
use Rattle.ti_source.specs.declared.code.Code.TheVariants as code
use Rattle.ti_source.specs.Stating.{statement_of}
use Rattle.ti_source.specs.inside.Verdicts.{verdict_of}
use Rattle.ti_source.proofs.ItemLaws.{one_statement}
use Rattle.ti_source.proofs.JudgingLaws.{one_verdict}
use Rattle.ti_source.proofs.ReadingLaws.{has_reading}
use Rattle.std.specs.Prelude.{nat_lt}
use Rattle.source_spans.specs.Folding.{folded_of}
use Rattle.source_spans.specs.Replacing.{NewTextIsRead, OthersAreReadAsBefore, exchanged, fault_at, item_texts, said_at}
use Rattle.source_spans.specs.Subjects.{items_of}
use Rattle.source_spans.proofs.Exchanging.{one_replaced}
use Rattle.source_spans.proofs.Ordinals.{seen_are_read}

abbrev text_read : List PlacedByte → List ℕ
text_read item = bytes (without_front item)

-- ---- what the items of an ordinal say

abbrev said_in : ℕ → List ReadItem → Option Said
said_in ordinal items = option_map (λ (item : ReadItem). item.said) (find (λ (item : ReadItem). item.ordinal == ordinal) items)

said_past : (m n : ℕ) (o : Option Judged) (rest : List ReadItem) → (m == n) ≡ false → said_in n (items_at m o ++ rest) ≡ said_in n rest
said_past m n None rest other = refl
said_past m n (Some j) rest other = by_verdict j.line j.verdict
  where
    by_verdict : (line : ℕ) (v : Verdict) → said_in n (items_by m line v ++ rest) ≡ said_in n rest
    by_verdict line (accepted x) = rw other refl
    by_verdict line (accepted_odd x) = rw other refl
    by_verdict line (refused c) = refl

said_none : (n m : ℕ) (judged : List (Option Judged)) → n < m → said_in n (items_from m judged) ≡ None
said_none n m [] less = refl
said_none n m (o ∷ os) less =
    said_past m n o (items_from (m + 1) os) (ne_eqb m n (λ e. absurd (omega (arith, e)))) ∙ said_none n (m + 1) os (omega (arith, less))

said_here : (m : ℕ) (o : Option Judged) (os : List (Option Judged)) → said_in m (items_from m (o ∷ os)) ≡ option_and_then (λ (j : Judged). said_by j.verdict) o
said_here m None os = said_none m (m + 1) os (omega arith)
said_here m (Some j) os = by_verdict j.line j.verdict
  where
    by_verdict : (line : ℕ) (v : Verdict) → said_in m (items_by m line v ++ items_from (m + 1) os) ≡ said_by v
    by_verdict line (accepted x) = rw (eq-eqb m m refl) refl
    by_verdict line (accepted_odd x) = rw (eq-eqb m m refl) refl
    by_verdict line (refused c) = said_none m (m + 1) os (omega arith)

said_among : (at m : ℕ) (judged : List (Option Judged)) → said_in (at + m) (items_from m judged)
    ≡ option_and_then (option_and_then (λ (j : Judged). said_by j.verdict)) (slice_get judged at)
said_among at m [] = refl
said_among zero m (o ∷ os) = ap (λ (n : ℕ). said_in n (items_from m (o ∷ os))) (zero-add m) ∙ said_here m o os
said_among (suc at) m (o ∷ os) =
    let more : suc at + m ≡ at + (m + 1) = omega arith in
    said_past m (suc at + m) o (items_from (m + 1) os) (ne_eqb m (suc at + m) (λ e. absurd (omega (arith, e))))
    ∙ ap (λ (n : ℕ). said_in n (items_from (m + 1) os)) more ∙ said_among at (m + 1) os

-- ---- the fault of an ordinal

abbrev fault_in : ℕ → List ReadFault → Option Code
fault_in ordinal faults =
    option_map (λ (fault : ReadFault). fault.code) (find (λ (fault : ReadFault). fault.ordinal == ordinal && not (is_of_header fault.code)) faults)

-- a fault of an item, none if it is of the names field
abbrev pub of_item : Code → Option Code
of_item c = cond (is_of_header c) None (Some c)

abbrev pub fault_by : Verdict → Option Code
fault_by v = option_and_then of_item (code_by v)

fault_past : (m n : ℕ) (o : Option Judged) (rest : List ReadFault) → (m == n) ≡ false → fault_in n (faults_at m o ++ rest) ≡ fault_in n rest
fault_past m n None rest other = refl
fault_past m n (Some j) rest other = by_verdict j.line j.name j.verdict
  where
    by_verdict : (line : ℕ) (name : List ℕ) (v : Verdict) → fault_in n (faults_by m line name v ++ rest) ≡ fault_in n rest
    by_verdict line name (accepted x) = refl
    by_verdict line name (accepted_odd x) = rw other refl
    by_verdict line name (refused c) = rw other refl

fault_none : (n m : ℕ) (judged : List (Option Judged)) → n < m → fault_in n (faults_from m judged) ≡ None
fault_none n m [] less = refl
fault_none n m (o ∷ os) less =
    fault_past m n o (faults_from (m + 1) os) (ne_eqb m n (λ e. absurd (omega (arith, e)))) ∙ fault_none n (m + 1) os (omega (arith, less))

fault_first : (m line : ℕ) (name : List ℕ) (c : Code) (rest : List ReadFault) (b : Bool) → fault_in m rest ≡ None → is_of_header c ≡ b
    → fault_in m (faults_by m line name (refused c) ++ rest) ≡ cond b None (Some c)
fault_first m line name c rest true none is = rw (eq-eqb m m refl, is) none
fault_first m line name c rest false none is = rw (eq-eqb m m refl, is) refl

fault_here : (m : ℕ) (o : Option Judged) (os : List (Option Judged)) → fault_in m (faults_from m (o ∷ os))
    ≡ option_and_then (λ (j : Judged). fault_by j.verdict) o
fault_here m None os = fault_none m (m + 1) os (omega arith)
fault_here m (Some j) os = by_verdict j.line j.name j.verdict
  where
    by_verdict : (line : ℕ) (name : List ℕ) (v : Verdict) → fault_in m (faults_by m line name v ++ faults_from (m + 1) os) ≡ fault_by v
    by_verdict line name (accepted x) = fault_none m (m + 1) os (omega arith)
    by_verdict line name (accepted_odd x) = rw (eq-eqb m m refl) refl
    by_verdict line name (refused c) = fault_first m line name c (faults_from (m + 1) os) (is_of_header c) (fault_none m (m + 1) os (omega arith)) refl

fault_among : (at m : ℕ) (judged : List (Option Judged)) → fault_in (at + m) (faults_from m judged)
    ≡ option_and_then (option_and_then (λ (j : Judged). fault_by j.verdict)) (slice_get judged at)
fault_among at m [] = refl
fault_among zero m (o ∷ os) = ap (λ (n : ℕ). fault_in n (faults_from m (o ∷ os))) (zero-add m) ∙ fault_here m o os
fault_among (suc at) m (o ∷ os) =
    let more : suc at + m ≡ at + (m + 1) = omega arith in
    fault_past m (suc at + m) o (faults_from (m + 1) os) (ne_eqb m (suc at + m) (λ e. absurd (omega (arith, e))))
    ∙ ap (λ (n : ℕ). fault_in n (faults_from (m + 1) os)) more ∙ fault_among at (m + 1) os

-- the faults of the names field do not count
and_false : (b : Bool) → (b && false) ≡ false
and_false true = refl
and_false false = refl

past_header : (n : ℕ) (field : List ℕ) (names : Option (List (List ℕ))) (rest : List ReadFault)
    → fault_in n (header_faults field names ++ rest) ≡ fault_in n rest
past_header n field None rest = rw (and_false (0 == n)) refl
past_header n field (Some names) rest =
    elim (nat_lt names_max (length field)) as (λ b. fault_in n (cond b (header_fault code.NamesTooLong ∷ []) [] ++ rest) ≡ fault_in n rest) [
      | true ↦ rw (and_false (0 == n)) refl
      | false ↦ refl
    ]

-- ---- the verdict on an item is that on its text

unfoldable pub verdict_in : List ℕ → Option Verdict
verdict_in text = option_map (λ (s : Statement). verdict_of s.name s.claim) (statement_of text)

verdict_is : (item : List PlacedByte) (o : Option Judged) → IsJudged item o → option_map (λ (j : Judged). j.verdict) o ≡ verdict_in (text_read item)
unfolding verdict_in
verdict_is _ _ (item_ignored item states) = ap (option_map (λ (s : Statement). verdict_of s.name s.claim)) (one_statement (text_read item) None states)
verdict_is _ _ (item_judged item s v states judges) =
    ap (λ (x : Verdict). Some x) (one_verdict s.name s.claim v judges)
    ∙ ap (option_map (λ (t : Statement). verdict_of t.name t.claim)) (one_statement (text_read item) (Some s) states)

verdicts_are : (at : ℕ) (items : List (List PlacedByte)) (judged : List (Option Judged)) → AreJudged items judged
    → option_and_then (option_map (λ (j : Judged). j.verdict)) (slice_get judged at) ≡ option_and_then verdict_in (slice_get (map text_read items) at)
verdicts_are at _ _ no_item = refl
verdicts_are zero _ _ (item_and_rest {item = item} {items = items} {outcome = outcome} {outcomes = outcomes} first rest) = verdict_is item outcome first
verdicts_are (suc at) _ _ (item_and_rest {item = item} {items = items} {outcome = outcome} {outcomes = outcomes} first rest) =
    verdicts_are at items outcomes rest

through : {A : Type 0} (f : Verdict → Option A) (o : Option (Option Judged)) → option_and_then (option_and_then (λ (j : Judged). f j.verdict)) o
    ≡ option_and_then f (option_and_then (option_map (λ (j : Judged). j.verdict)) o)
through f None = refl
through f (Some None) = refl
through f (Some (Some j)) = refl

-- what is read of an item, by its text
pub said_is : (block : List ℕ) (at : ℕ) → said_at block at ≡ option_and_then said_by (option_and_then verdict_in (slice_get (item_texts block) at))
said_is block at =
    let p = has_reading block in
    let items : (reading_of_text block).items ≡ items_from 0 p.judged = ap (λ (r : Reading). r.items) p.is in
    let so : at ≡ at + 0 = omega arith in
    ap (said_in at) items ∙ ap (λ (n : ℕ). said_in n (items_from 0 p.judged)) so ∙ said_among at 0 p.judged ∙ through said_by (slice_get p.judged at)
    ∙ ap (option_and_then said_by) (verdicts_are at p.items p.judged p.are_judged
    ∙ ap (λ (texts : List (List ℕ)). option_and_then verdict_in (slice_get texts at)) (sym (seen_are_read block (reading_of_text block) p)))

pub fault_is : (block : List ℕ) (at : ℕ) → fault_at block at ≡ option_and_then fault_by (option_and_then verdict_in (slice_get (item_texts block) at))
fault_is block at =
    let p = has_reading block in
    let faults : (reading_of_text block).faults ≡ header_faults (bytes p.field) p.names ++ faults_from 0 p.judged = ap (λ (r : Reading). r.faults) p.is in
    let so : at ≡ at + 0 = omega arith in
    ap (fault_in at) faults ∙ past_header at (bytes p.field) p.names (faults_from 0 p.judged)
    ∙ ap (λ (n : ℕ). fault_in n (faults_from 0 p.judged)) so ∙ fault_among at 0 p.judged ∙ through fault_by (slice_get p.judged at)
    ∙ ap (option_and_then fault_by) (verdicts_are at p.items p.judged p.are_judged
    ∙ ap (λ (texts : List (List ℕ)). option_and_then verdict_in (slice_get texts at)) (sym (seen_are_read block (reading_of_text block) p)))

-- ---- once an item is another

pub other_got : (xs : List (List ℕ)) (k at : ℕ) (v : List ℕ) → at ≢ k → slice_get (slice_set xs k v) at ≡ slice_get xs at
other_got [] k at v other = refl
other_got (x ∷ xs) zero zero v other = absurd (other refl)
other_got (x ∷ xs) zero (suc at) v other = refl
other_got (x ∷ xs) (suc k) zero v other = refl
other_got (x ∷ xs) (suc k) (suc at) v other = other_got xs k at v (λ e. other (ap suc e))

pub same_got : (items : List (List PlacedByte)) (k : ℕ) (v : List ℕ) (item : List PlacedByte) → slice_get items k ≡ Some item
    → slice_get (slice_set (map bytes items) k v) k ≡ Some v
same_got [] k v item e = absurd cc
same_got (x ∷ xs) zero v item e = refl
same_got (x ∷ xs) (suc k) v item e = same_got xs k v item e

pub others_read : OthersAreReadAsBefore
others_read block ordinal item part new text single there replaces at other =
    let texts = (one_replaced block ordinal item part new text single there replaces).0 in
    let same : slice_get (item_texts (exchanged block part new)) at ≡ slice_get (item_texts block) at =
    ap (λ (l : List (List ℕ)). slice_get l at) texts ∙ other_got (item_texts block) ordinal at text other in (
      said_is (exchanged block part new) at ∙ ap (λ (o : Option (List ℕ)). option_and_then said_by (option_and_then verdict_in o)) same
          ∙ sym (said_is block at),
      fault_is (exchanged block part new) at ∙ ap (λ (o : Option (List ℕ)). option_and_then fault_by (option_and_then verdict_in o)) same
          ∙ sym (fault_is block at),
    )

pub only_code : (o : Option Code) (c : Code) → option_and_then of_item o ≡ Some c → o ≡ Some c
only_code None c e = absurd cc
only_code (Some x) c e = by_test (is_of_header x) e
  where
    by_test : (b : Bool) → cond b None (Some x) ≡ Some c → Some x ≡ Some c
    by_test true e = absurd cc
    by_test false e = e

pub new_read : NewTextIsRead
unfolding verdict_in
new_read block ordinal item part new text verdict single there replaces judged =
    let texts = (one_replaced block ordinal item part new text single there replaces).0 in
    let got : slice_get (item_texts (exchanged block part new)) ordinal ≡ Some text =
    ap (λ (l : List (List ℕ)). slice_get l ordinal) texts ∙ same_got (items_of (folded_of block)) ordinal text item there in
    let by : verdict_in text ≡ Some verdict =
    ap (option_map (λ (s : Statement). verdict_of s.name s.claim)) (sym (one_statement text (Some judged.statement) judged.states))
    ∙ ap (λ (v : Verdict). Some v) (sym (one_verdict judged.statement.name judged.statement.claim verdict judged.judges)) in
    record {
      says = said_is (exchanged block part new) ordinal ∙ ap (λ (o : Option (List ℕ)). option_and_then said_by (option_and_then verdict_in o)) got
          ∙ ap (option_and_then said_by) by;
      fault = λ c e. only_code (code_by verdict) c
          (sym (fault_is (exchanged block part new) ordinal ∙ ap (λ (o : Option (List ℕ)). option_and_then fault_by (option_and_then verdict_in o)) got
          ∙ ap (option_and_then fault_by) by) ∙ e);
    }
