-- What an item gives to user-defined capabilities is read from the text that is written of it.
use Rattle.std.proofs.Common.{◌≡◌, ◌≢◌, ℕ, ◌≤◌, Bool, true, false, not, ◌==◌, ◌||◌, ◌&&◌, List, [], ◌∷◌, ◌++◌, Option, Some, None, Ok, refl, ap, sym, ◌∙◌}
use Rattle.std.proofs.Common.{subst, arith}
use Rattle.std.specs.List.{list_all, All}
use Rattle.std.specs.Option.{option_map}
use Rattle.std.specs.Prelude.{codes}
use Rattle.std.specs.Str.{bytes_eq}
use Rattle.std.specs.Fmt.{decimal}
use Rattle.std.proofs.lemmas.Bool.{and_parts, or_parts, and_from, not-true, eqb-false, ne_eqb}
use Rattle.std.proofs.lemmas.List.{append-nil}
use Rattle.std.proofs.lemmas.List.Elements.{All-head, All-tail}
use Rattle.std.proofs.lemmas.List.Folds.{list_all-append}
use Rattle.ti_caps.specs.Tables.{Capability, IsCapability, name_of, EveryNameIsFound}
use Rattle.ti_text.specs.Limits.{number_max}
use Rattle.ti_text.specs.WhiteSpace.{is_white_space}
use Rattle.ti_spelling.specs.WhiteSpace.{without_trailing_space}
use Rattle.ti_source.specs.Header.{IsNameByte, IsLookupName}
use Rattle.ti_source.specs.Items.{Claim, Statement, claims_flag, claims_number, claims_text, claims_cancel, States, number_item, text_item, cancel_item}
use Rattle.ti_source.specs.Items.{flag_item, without_outer_space}
use Rattle.ti_source.specs.Reading.{Said, said_flag, said_number, said_text, said_cancel, said_import}
use Rattle.ti_source.specs.declared.code.Code.TheVariants as code
use Rattle.ti_source.specs.Verdicts.{Judges, Verdict, accepted, refused, ReadClaim, reads_flag, reads_number, reads_text, reads_cancel, IsReadAs}
use Rattle.ti_source.specs.Verdicts.{flag_read, number_read_as, text_read_as, cancel_read, is_import}
use Rattle.ti_source.specs.inside.Verdicts.{read_claim}
use Rattle.ti_source.proofs.JudgingLaws.{is_read, judged_cancel, judged_flag, judged_import, judged_number, judged_text}
use Rattle.ti_spelling.specs.Spelling.{spelling_of, AreBytes, WrittenSpells}
use Rattle.ti_layout.specs.Values.{Content, content_true, content_number, content_text, content_cancelled}
use Rattle.user_items.specs.Names.{is_user_defined_name}
use Rattle.user_items.specs.Verdicts.{UserSaid, says, imports, user_accepted, UserJudges, defining_verdict}
use Rattle.user_listing.specs.Items.{named_item}
use Rattle.tools_relisting.proofs.Cutting.{is_clear, is_whole, is_inline, has_no_cut, no_cut-whole, clear-cons, clear-append, clear-whole}
use Rattle.tools_relisting.proofs.Cutting.{written_from-clear, written_from-inline}
use Rattle.tools_relisting.proofs.Unfolding.{is_dark}
use Rattle.tools_relisting.proofs.Words.{capability-name, decimal-digits, numeral-of}
use Rattle.tools_relisting.proofs.Stating.{import-readable}
use Rattle.user_relisting.specs.Items.{Item, of_tables, of_user, item_text, user_said, table_said, CanBeWritten, IsWritable}
use Rattle.user_relisting.proofs.Words.{IsGoodName, name-inline, name-no_cut, name-clear, name-dark, name-enabled, name-no_mark, name-visible}
use Rattle.user_relisting.proofs.Words.{name-unmarked, word-named, user-good, user-unknown, found-not}

-- a text, on one line, that is inside one item and states this
pub record IsStated (w : List ℕ) (s : Statement) : Type 0 where
  pub dark : is_dark w ≡ true
  pub inline : is_inline w ≡ true
  pub whole : (before : ℕ) → is_whole before w ≡ true
  pub states : States w (Some s)

abbrev statement : List ℕ → Claim → Statement
statement name claim = record { name = name; claim = claim }

-- what is written of a value claims this
abbrev claim_of : Content → Claim
claim_of content_true = claims_flag
claim_of (content_number n) = claims_number (decimal n)
claim_of (content_text t) = claims_text (spelling_of t)
claim_of content_cancelled = claims_cancel

-- ---- an item of each form

flag-stated : (name : List ℕ) → IsGoodName name → IsStated name (statement name claims_flag)
flag-stated name n =
    let none : name ++ [] ≡ name = append-nil name in
    let P : List ℕ → Type 0 = λ w. States w (Some (statement name claims_flag)) in
    record {
      dark = subst (λ w. is_dark w ≡ true) none (name-dark name [] n.some n.named);
      inline = name-inline name n.named;
      whole = λ before. no_cut-whole before name (name-no_cut name n.named);
      states = subst P none (flag_item name [] (name-no_mark name n.named) tt (name-enabled name [] n.some n.named) (name-visible name n.some n.named)
          (eqb-false _ 64 (name-unmarked name n.some n.named)));
    }

number-stated : (name : List ℕ) (n : ℕ) → IsGoodName name → n ≤ number_max → IsStated (name ++ 35 ∷ decimal n) (statement name (claims_number (decimal n)))
number-stated name n good small =
    let ds = decimal n in
    let digits = decimal-digits n (omega arith) in
    let word = word-named ds digits.word in
    record {
      dark = name-dark name (35 ∷ ds) good.some good.named;
      inline = list_all-append (λ b. not (b == 10)) name (35 ∷ ds)
          ∙ and_from (is_inline name) (is_inline ds) (name-inline name good.named) (name-inline ds word);
      whole = λ before.
          no_cut-whole before (name ++ 35 ∷ ds)
          (list_all-append (λ b. not (b == 44) && not (b == 92)) name (35 ∷ ds)
          ∙ and_from (has_no_cut name) (has_no_cut ds) (name-no_cut name good.named) (name-no_cut ds word));
      states = number_item name ds (name-no_mark name good.named) (name-enabled name (35 ∷ ds) good.some good.named);
    }

cancel-stated : (name : List ℕ) → IsGoodName name → IsStated (name ++ 64 ∷ []) (statement name claims_cancel)
cancel-stated name good = record {
  dark = name-dark name (64 ∷ []) good.some good.named;
  inline = list_all-append (λ b. not (b == 10)) name (64 ∷ []) ∙ and_from (is_inline name) true (name-inline name good.named) refl;
  whole = λ before.
      no_cut-whole before (name ++ 64 ∷ [])
      (list_all-append (λ b. not (b == 44) && not (b == 92)) name (64 ∷ []) ∙ and_from (has_no_cut name) true (name-no_cut name good.named) refl);
  states = cancel_item name [] (name-no_mark name good.named) tt (name-enabled name (64 ∷ []) good.some good.named);
}

text-stated : (name t : List ℕ) → IsGoodName name → AreBytes t → IsStated (name ++ 61 ∷ spelling_of t) (statement name (claims_text (spelling_of t)))
text-stated name t good are =
    let value = spelling_of t in
    let clear : (before : ℕ) → is_clear before (name ++ 61 ∷ value) ≡ true =
    λ before. clear-append before name (61 ∷ value) (name-clear before name good.named)
    (clear-cons _ 61 value refl (written_from-clear true 0 61 t refl are)) in
    record {
      dark = name-dark name (61 ∷ value) good.some good.named;
      inline = list_all-append (λ b. not (b == 10)) name (61 ∷ value)
          ∙ and_from (is_inline name) (is_inline value) (name-inline name good.named) (written_from-inline true 0 t are);
      whole = λ before. subst (λ w. is_whole before w ≡ true) (append-nil (name ++ 61 ∷ value))
          (clear-whole before (name ++ 61 ∷ value) [] (clear before) refl);
      states = text_item name value (name-no_mark name good.named) (name-enabled name (61 ∷ value) good.some good.named);
    }

named-stated : (name : List ℕ) (content : Content) → IsGoodName name → IsWritable content
    → IsStated (named_item name content) (statement name (claim_of content))
named-stated name content_true good can = flag-stated name good
named-stated name (content_number n) good can = number-stated name n good can
named-stated name (content_text t) good can = text-stated name t good can.0
named-stated name content_cancelled good can = cancel-stated name good

-- ---- what it gives to user-defined capabilities

-- the verdict of the profile on an item
abbrev pub table_verdict : Option Said → Verdict
table_verdict (Some said) = accepted said
table_verdict None = refused code.UnknownCapability

-- a text that is read as this, with user-defined capabilities and without
pub record IsReadable (w : List ℕ) (user : Option UserSaid) (table : Option Said) : Type 0 where
  pub said_by : Statement
  pub stated : IsStated w said_by
  pub judges : UserJudges said_by.name said_by.claim (option_map user_accepted user)
  pub table_judges : Judges said_by.name said_by.claim (table_verdict table)

-- what a claim of a value reads as
abbrev read_of : Content → ReadClaim
read_of content_true = reads_flag
read_of (content_number n) = reads_number (Ok n)
read_of (content_text t) = reads_text (spelling_of t) (Ok (t, false))
read_of content_cancelled = reads_cancel

reads-value : WrittenSpells → (content : Content) → IsWritable content → IsReadAs (claim_of content) (read_of content)
reads-value spells content_true can = flag_read
reads-value spells (content_number n) can = number_read_as (numeral-of n (decimal n) (decimal-digits n (omega (arith, can))), can)
reads-value spells (content_text t) can = text_read_as (spells t can.0 can.1)
reads-value spells content_cancelled can = cancel_read

no-import : (name : List ℕ) (claim : Claim) → bytes_eq name (codes "use") ≡ false → is_import name claim ≡ false
no-import name claims_flag other = refl
no-import name (claims_number text) other = refl
no-import name (claims_text value) other = other
no-import name claims_cancel other = refl

defines-value : (name : List ℕ) (content : Content) → defining_verdict name (read_of content) ≡ user_accepted (says name content)
defines-value name content_true = refl
defines-value name (content_number n) = refl
defines-value name (content_text t) = refl
defines-value name content_cancelled = refl

user-readable : WrittenSpells → (name : List ℕ) (content : Content) → is_user_defined_name name ≡ true → IsWritable content
    → IsReadable (named_item name content) (Some (says name content)) None
user-readable spells name content user can =
    let good = user-good name user in
    record {
      said_by = statement name (claim_of content);
      stated = named-stated name content good can;
      judges = record {
        read = read_of content;
        is_read = reads-value spells content can;
        is = ap (λ v. Some v) (sym (defines-value name content)) ∙ sym (rw (no-import name (claim_of content) good.other, user) refl);
      };
      table_judges = record {
        read = read_of content;
        is_read = reads-value spells content can;
        is = sym (rw (no-import name (claim_of content) good.other, user-unknown name user) refl);
      };
    }

-- an item of the tables is none of a user-defined name
table-readable : EveryNameIsFound → (c : Capability) (content : Content) (said : Said) → IsCapability c → IsWritable content
    → Judges (name_of c) (claim_of content) (accepted said) → IsReadable (named_item (name_of c) content) None (Some said)
table-readable found c content said is can judged =
    let n = capability-name c is in
    let good : IsGoodName (name_of c) = record { some = n.some; named = word-named (name_of c) n.word; other = n.other } in
    let not_user : is_user_defined_name (name_of c) ≡ false = found-not (name_of c) (rw (found c is) refl) in
    record {
      said_by = statement (name_of c) (claim_of content);
      stated = named-stated (name_of c) content good can;
      judges = record {
        read = read_claim (claim_of content);
        is_read = is_read (claim_of content);
        is = sym (rw (no-import (name_of c) (claim_of content) good.other, not_user) refl);
      };
      table_judges = judged;
    }

-- ---- a use of another entry

abbrev is_visible : ℕ → Bool
is_visible x = not (x == 10 || is_white_space x)

name_byte-visible : (x : ℕ) → IsNameByte x → is_visible x ≡ true
name_byte-visible x h = rw (ne_eqb x 10 (λ e. omega (arith, e, h.0)), ne_eqb x 32 (λ e. omega (arith, e, h.0)), ne_eqb x 9 (λ e. omega (arith, e, h.0))) refl

visible-trimmed : (w : List ℕ) → list_all is_visible w ≡ true → without_trailing_space w ≡ w
visible-trimmed [] h = refl
visible-trimmed (x ∷ xs) h =
    let parts = and_parts (is_visible x) (list_all is_visible xs) h in
    let none = or_parts (x == 10) (is_white_space x) (not-true (x == 10 || is_white_space x) parts.0) in
    rw none.1 (ap (λ t. x ∷ t) (visible-trimmed xs parts.1))

visible-stripped : (w : List ℕ) → list_all is_visible w ≡ true → without_outer_space w ≡ w
visible-stripped [] h = refl
visible-stripped (x ∷ xs) h =
    let parts = and_parts (is_visible x) (list_all is_visible xs) h in
    let none = or_parts (x == 10) (is_white_space x) (not-true (x == 10 || is_white_space x) parts.0) in
    rw none.1 (visible-trimmed (x ∷ xs) h)

lookup-visible : (w : List ℕ) → All IsNameByte w → list_all is_visible w ≡ true
lookup-visible [] h = refl
lookup-visible (x ∷ xs) h =
    and_from (is_visible x) (list_all is_visible xs) (name_byte-visible x (All-head IsNameByte x xs h)) (lookup-visible xs (All-tail IsNameByte x xs h))

import-readable-so : (name : List ℕ) → IsLookupName name → All (λ byte. byte ≢ 92) name
    → IsReadable (codes "use=" ++ name) (Some (imports name)) (Some (said_import name))
import-readable-so name is none =
    let readable = import-readable name is none in
    let same : without_outer_space name ≡ name = visible-stripped name (lookup-visible name is.bytes) in
    record {
      said_by = statement (codes "use") (claims_text name);
      stated = record {
        dark = readable.dark;
        inline = readable.inline;
        whole = readable.whole;
        states = text_item (codes "use") name (refl, (refl, (refl, tt))) refl;
      };
      judges =
          record { read = read_claim (claims_text name); is_read = is_read (claims_text name); is = ap (λ n. Some (user_accepted (imports n))) (sym same) };
      table_judges = subst (λ n. Judges (codes "use") (claims_text name) (accepted (said_import n))) same (judged_import (codes "use") name refl);
    }

-- ---- each item

pub item-readable : EveryNameIsFound → WrittenSpells → (item : Item) → CanBeWritten item → IsReadable (item_text item) (user_said item) (table_said item)
item-readable found spells (of_tables (said_flag c)) can =
    table-readable found c content_true (said_flag c) can.0 tt (judged_flag (name_of c) c (found c can.0) can.1)
item-readable found spells (of_tables (said_number c n)) can =
    table-readable found c (content_number n) (said_number c n) can.0 can.2
    (judged_number (name_of c) (decimal n) c n (found c can.0) can.1 (numeral-of n (decimal n) (decimal-digits n (omega (arith, can.2)))) can.2)
item-readable found spells (of_tables (said_text c t)) can =
    table-readable found c (content_text t) (said_text c t) can.0 (can.2, can.3)
    (judged_text (name_of c) (spelling_of t) t c (capability-name c can.0).other (found c can.0) can.1 (spells t can.2 can.3))
item-readable found spells (of_tables (said_cancel c)) can =
    table-readable found c content_cancelled (said_cancel c) can tt (judged_cancel (name_of c) c (found c can))
item-readable found spells (of_tables (said_import name)) can = import-readable-so name can.0 can.1
item-readable found spells (of_user name content) can = user-readable spells name content can.0 can.1
