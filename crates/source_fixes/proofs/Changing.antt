-- A block with a part of an item exchanged, and what is read of that item before and after.
use Rattle.std.proofs.Common.{◌≡◌, ◌≢◌, ℕ, List, [], ◌∷◌, Option, None, Some, slice_get, slice_set, refl, sym, ap, subst, ◌∙◌}
use Rattle.std.specs.Option.{option_and_then, option_map}
use Rattle.std.proofs.lemmas.Option.{slice_get-map}
use Rattle.ti_source.specs.Cutting.{OneBlock}
use Rattle.ti_source.specs.Folding.{PlacedByte}
use Rattle.ti_source.specs.Items.{Statement, States, bytes, without_front}
use Rattle.ti_source.specs.Reading.{Said}
use Rattle.ti_source.specs.Stating.{statement_of}
use Rattle.ti_source.specs.Verdicts.{Verdict, accepted, accepted_odd, code_by, refused, said_by}
use Rattle.ti_source.specs.declared.code.Code.{Code}
use Rattle.ti_source.specs.declared.code.Code.TheVariants as code
use Rattle.ti_source.specs.inside.Verdicts.{verdict_of}
use Rattle.ti_source.proofs.ItemLaws.{BeginsVisible, has_statement, one_statement}
use Rattle.ti_source.proofs.JudgingLaws.{has_verdict, one_verdict}
use Rattle.source_spans.specs.Folding.{folded_of}
use Rattle.source_spans.specs.Parts.{items_after, rest_of}
use Rattle.source_spans.specs.Replacing.{Replaces, exchanged, fault_at, item_texts, said_at}
use Rattle.source_spans.specs.Subjects.{head_text, items_of}
use Rattle.source_spans.specs.declared.parts.Part.{Part}
use Rattle.source_spans.proofs.Exchanging.{begins_visible, found_raw, one_replaced}
use Rattle.source_spans.proofs.Rereading.{fault_by, fault_is, new_read, only_code, other_got, others_read, said_is, same_got, verdict_in}
use Rattle.source_edits.specs.Laws.{IsAccepted, IsOfCapability, IsRead}
use Rattle.source_fixes.specs.Healing.{IsFixed, LosesFault, OneItemChanges}

-- what a text that takes a part's place makes of its block
pub item_changes : (block : List ℕ) (ordinal : ℕ) (item : List PlacedByte) (part : Part) (new text : List ℕ) → OneBlock block
    → slice_get (items_of (folded_of block)) ordinal ≡ Some item → Replaces item part new text → OneItemChanges block (exchanged block part new) ordinal text
item_changes block ordinal item part new text single there replaces =
    let one = one_replaced block ordinal item part new text single there replaces in
    record {
      texts = one.0;
      head = one.1;
      reads = λ verdict read.
          new_read block ordinal item part new text verdict single there replaces
          (record { statement = read.statement; states = read.states; judges = read.judges });
      others = others_read block ordinal item part new text single there replaces;
    }

-- what another text of an item makes of a block
pub changes_by_texts : (block after : List ℕ) (ordinal : ℕ) (item : List PlacedByte) (text : List ℕ)
    → slice_get (items_of (folded_of block)) ordinal ≡ Some item
    → item_texts after ≡ slice_set (item_texts block) ordinal text → head_text after ≡ head_text block → OneItemChanges block after ordinal text
unfolding verdict_in
changes_by_texts block after ordinal item text there texts head =
    let got : slice_get (item_texts after) ordinal ≡ Some text =
    ap (λ (l : List (List ℕ)). slice_get l ordinal) texts ∙ same_got (items_of (folded_of block)) ordinal text item there in
    let other : (at : ℕ) → at ≢ ordinal → slice_get (item_texts after) at ≡ slice_get (item_texts block) at =
    λ at apart. ap (λ (l : List (List ℕ)). slice_get l at) texts ∙ other_got (item_texts block) ordinal at text apart in
    record {
      texts = texts;
      head = head;
      reads = λ verdict read.
          let by : verdict_in text ≡ Some verdict =
          ap (option_map (λ (s : Statement). verdict_of s.name s.claim)) (sym (one_statement text (Some read.statement) read.states))
          ∙ ap (λ (v : Verdict). Some v) (sym (one_verdict read.statement.name read.statement.claim verdict read.judges)) in
          record {
            says = said_is after ordinal ∙ ap (λ (o : Option (List ℕ)). option_and_then said_by (option_and_then verdict_in o)) got
                ∙ ap (option_and_then said_by) by;
            fault = λ c e. only_code (code_by verdict) c
                (sym (fault_is after ordinal ∙ ap (λ (o : Option (List ℕ)). option_and_then fault_by (option_and_then verdict_in o)) got
                ∙ ap (option_and_then fault_by) by) ∙ e);
          };
      others = λ at apart. (
        said_is after at ∙ ap (λ (o : Option (List ℕ)). option_and_then said_by (option_and_then verdict_in o)) (other at apart) ∙ sym (said_is block at),
        fault_is after at ∙ ap (λ (o : Option (List ℕ)). option_and_then fault_by (option_and_then verdict_in o)) (other at apart) ∙ sym (fault_is block at),
      );
    }

-- ---- what is read of an item

visible_item : (text : List PlacedByte) (ordinal : ℕ) (item : List PlacedByte) → slice_get (items_of text) ordinal ≡ Some item → BeginsVisible (bytes item)
visible_item text ordinal [] there = tt
visible_item text ordinal (x ∷ xs) there =
    let raws = items_after 44 (rest_of text) in
    let found = found_raw (slice_get raws ordinal) (x ∷ xs) (sym (slice_get-map without_front raws ordinal) ∙ there) in
    begins_visible found.0 x xs found.2

pub text_there : (block : List ℕ) (ordinal : ℕ) (item : List PlacedByte) → slice_get (items_of (folded_of block)) ordinal ≡ Some item
    → slice_get (item_texts block) ordinal ≡ Some (bytes item)
text_there block ordinal item there = slice_get-map bytes (items_of (folded_of block)) ordinal ∙ ap (option_map bytes) there

-- the verdict on an item, by which it is read in its block
pub record IsVerdict (block : List ℕ) (ordinal : ℕ) (text : List ℕ) (verdict : Verdict) : Type 0 where
  pub read : IsRead text verdict
  pub says : said_at block ordinal ≡ said_by verdict

by_statement : (block : List ℕ) (ordinal : ℕ) (text : List ℕ) (c : Code) (o : Option Statement) → States text o
    → said_at block ordinal ≡ option_and_then said_by (option_map (λ (s : Statement). verdict_of s.name s.claim) o)
    → option_and_then fault_by (option_map (λ (s : Statement). verdict_of s.name s.claim) o) ≡ Some c
    → (verdict : Verdict) × IsVerdict block ordinal text verdict × (code_by verdict ≡ Some c)
by_statement block ordinal text c None states says e = absurd cc
by_statement block ordinal text c (Some s) states says e = (
  verdict_of s.name s.claim,
  record { read = record { statement = s; states = states; judges = has_verdict s.name s.claim }; says = says },
  only_code (code_by (verdict_of s.name s.claim)) c e,
)

-- that of an item with a fault
pub faulty_item : (block : List ℕ) (ordinal : ℕ) (item : List PlacedByte) (c : Code) → slice_get (items_of (folded_of block)) ordinal ≡ Some item
    → fault_at block ordinal ≡ Some c
    → (verdict : Verdict) × IsVerdict block ordinal (bytes item) verdict × (code_by verdict ≡ Some c)
unfolding verdict_in
faulty_item block ordinal item c there had =
    let got = text_there block ordinal item there in
    by_statement block ordinal (bytes item) c (statement_of (bytes item)) (has_statement (bytes item) (visible_item (folded_of block) ordinal item there))
    (said_is block ordinal ∙ ap (λ (o : Option (List ℕ)). option_and_then said_by (option_and_then verdict_in o)) got)
    (sym (ap (λ (o : Option (List ℕ)). option_and_then fault_by (option_and_then verdict_in o)) got) ∙ sym (fault_is block ordinal) ∙ had)

-- what is said of an item, by the verdict on it
pub said_item : (block : List ℕ) (ordinal : ℕ) (item : List PlacedByte) (verdict : Verdict) → slice_get (items_of (folded_of block)) ordinal ≡ Some item
    → IsRead (bytes item) verdict
    → said_at block ordinal ≡ said_by verdict
unfolding verdict_in
said_item block ordinal item verdict there read =
    said_is block ordinal ∙ ap (λ (o : Option (List ℕ)). option_and_then said_by (option_and_then verdict_in o)) (text_there block ordinal item there)
    ∙ ap (λ (o : Option Statement). option_and_then said_by (option_map (λ (s : Statement). verdict_of s.name s.claim) o))
    (sym (one_statement (bytes item) (Some read.statement) read.states))
    ∙ ap said_by (sym (one_verdict read.statement.name read.statement.claim verdict read.judges))

-- an item whose fault is none of an odd escape is refused
refused_by : (verdict : Verdict) (c : Code) → code_by verdict ≡ Some c → c ≢ code.UnknownEscape → verdict ≡ refused c
refused_by (accepted said) c e other = absurd cc
refused_by (accepted_odd said) c e other = let is : code.UnknownEscape ≡ c = cc in absurd (other (sym is))
refused_by (refused d) c e other = let is : d ≡ c = cc in ap refused is

pub refused_item : (block : List ℕ) (ordinal : ℕ) (item : List PlacedByte) (c : Code) → slice_get (items_of (folded_of block)) ordinal ≡ Some item
    → fault_at block ordinal ≡ Some c
    → c ≢ code.UnknownEscape → IsRead (bytes item) (refused c)
refused_item block ordinal item c there had other =
    let found = faulty_item block ordinal item c there had in
    subst (IsRead (bytes item)) (refused_by found.0 c found.2 other) found.1.read

-- ---- the fault is gone

code_of_refused : (verdict : Verdict) (c : Code) → code_by verdict ≡ Some c → verdict ≢ refused c → c ≢ code.UnknownEscape → ⊥
code_of_refused verdict c e not other = not (refused_by verdict c e other)

pub loses_unknown : (block after : List ℕ) (ordinal : ℕ) (text : List ℕ) → fault_at block ordinal ≡ Some code.UnknownCapability
    → OneItemChanges block after ordinal text → IsOfCapability text
    → LosesFault block after ordinal
loses_unknown block after ordinal text had changes is = record {
  code = code.UnknownCapability;
  text = text;
  had = had;
  gone = λ e. code_of_refused is.verdict code.UnknownCapability ((changes.reads is.verdict is.is_read).fault code.UnknownCapability e) is.known (λ same. cc);
  changes = changes;
  fixed = is;
}

accepted_not : (verdict : Verdict) (said : Said) (c : Code) → said_by verdict ≡ Some said → verdict ≢ refused c
accepted_not verdict said c accepts e = let no = ap said_by e in cc

-- an item that is refused with a fault other than that of an odd escape, and then is accepted
loses_accepted : (c : Code) → c ≢ code.UnknownEscape → (block after : List ℕ) (ordinal : ℕ) (text : List ℕ) → fault_at block ordinal ≡ Some c
    → OneItemChanges block after ordinal text → IsAccepted text → IsFixed c block after ordinal text
    → LosesFault block after ordinal
loses_accepted c other block after ordinal text had changes is fixed = record {
  code = c;
  text = text;
  had = had;
  gone = λ e. code_of_refused is.verdict c ((changes.reads is.verdict is.is_read).fault c e) (accepted_not is.verdict is.said c is.accepts) other;
  changes = changes;
  fixed = fixed;
}

-- what it says then
says_accepted : (block after : List ℕ) (ordinal : ℕ) (text : List ℕ) → OneItemChanges block after ordinal text → (is : IsAccepted text)
    → said_at after ordinal ≡ Some is.said
says_accepted block after ordinal text changes is = (changes.reads is.verdict is.is_read).says ∙ is.accepts

pub loses_kind : (block after : List ℕ) (ordinal : ℕ) (text : List ℕ) → fault_at block ordinal ≡ Some code.WrongKind
    → OneItemChanges block after ordinal text → IsAccepted text
    → LosesFault block after ordinal
loses_kind block after ordinal text had changes is =
    loses_accepted code.WrongKind (λ same. cc) block after ordinal text had changes is (is.said, says_accepted block after ordinal text changes is)

pub loses_caret : (block after : List ℕ) (ordinal : ℕ) (text : List ℕ) → fault_at block ordinal ≡ Some code.BadString
    → OneItemChanges block after ordinal text → IsAccepted text
    → LosesFault block after ordinal
loses_caret block after ordinal text had changes is =
    loses_accepted code.BadString (λ same. cc) block after ordinal text had changes is (is.said, says_accepted block after ordinal text changes is)

-- an item that is accepted as it is has no fault
none_is : (o : Option Code) → ((c : Code) → o ≡ Some c → ⊥) → o ≡ None
none_is None never = refl
none_is (Some c) never = absurd (never c refl)

pub no_fault : (block after : List ℕ) (ordinal : ℕ) (text : List ℕ) (said : Said) → OneItemChanges block after ordinal text → IsRead text (accepted said)
    → (said_at after ordinal ≡ Some said) × (fault_at after ordinal ≡ None)
no_fault block after ordinal text said changes is =
    let read = changes.reads (accepted said) is in
    (read.says, none_is (fault_at after ordinal) (λ c e. let no = read.fault c e in cc))

pub loses_escape : (block after : List ℕ) (ordinal : ℕ) (text : List ℕ) (said : Said) → fault_at block ordinal ≡ Some code.UnknownEscape
    → said_at block ordinal ≡ Some said
    → OneItemChanges block after ordinal text → IsRead text (accepted said) → LosesFault block after ordinal
loses_escape block after ordinal text said had says changes is =
    let now = no_fault block after ordinal text said changes is in
    record {
      code = code.UnknownEscape;
      text = text;
      had = had;
      gone = λ e. let no = sym now.1 ∙ e in cc;
      changes = changes;
      fixed = (now.0 ∙ sym says, now.1);
    }
