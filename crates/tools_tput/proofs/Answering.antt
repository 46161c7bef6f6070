-- What is computed of a command is what the relations say of it, and nothing else.
use Rattle.std.proofs.Common.{◌≡◌, ℕ, Bool, true, false, List, [], ◌∷◌, length, Option, Some, None, Result, Ok}
use Rattle.std.proofs.Common.{Err, refl, sym, ap, subst, ◌∙◌, cond, bytes_eq, ltb, arith}
use Rattle.std.specs.Prelude.{codes, ℤ}
use Rattle.std.proofs.lemmas.Bool.{lt-ltb, ltb-true, ltb-false}
use Rattle.ti_text.specs.Lists.{both_lists}
use Rattle.tools_devices.specs.declared.tool_error.ToolError.{ToolError}
use Rattle.tools_devices.specs.declared.tool_error.ToolError.TheVariants.{Usage, NoTerminal, BadEntry, ReadFault, WriteFault}
use Rattle.tools_devices.specs.declared.tool_error.ToolError.TheVariants.{LineTooLong, BlockTooLong, TooManyBlocks, Memory}
use Rattle.ti_caps.specs.Tables.{Capability, capability_named}
use Rattle.ti_caps.specs.declared.capability.Kind.{Kind}
use Rattle.ti_caps.specs.declared.capability.Kind.TheVariants.{Flag, Number, Text}
use Rattle.ti_layout.specs.Values.{Content, Contents}
use Rattle.ti_layout.specs.View.{Entry, shown_text}
use Rattle.ti_param.specs.Expansion.{Expands, Overflows}
use Rattle.ti_formats.specs.Formats.{IsStuck}
use Rattle.ti_param.specs.Meaning.{FormatArgument, MachineOutcome, meaning, start}
use Rattle.ti_param.specs.inside.Expansion.{Expansion, expanded, bad_format, stack_full, expansion_by, unless_stuck, format_expansion}
use Rattle.ti_formats.specs.inside.Formats.{stuck_place, tree_of}
use Rattle.ti_formats.proofs.OneTree.{is_computed}
use Rattle.ti_printing.specs.declared.padding.Line.{Line}
use Rattle.ti_printing.specs.Padding.{AsksForTooMuch}
use Rattle.ti_printing.specs.inside.Padding.{padding_of, with_pad_bytes}
use Rattle.ti_printing.proofs.Cuts.{padded_is, too_much_computed}
use Rattle.tools_tput.specs.Commands.{AnswersCommand}
use Rattle.tools_tput.specs.Entries.{line_at_rate}
use Rattle.tools_tput.specs.Parameters.{parameters}
use Rattle.tools_tput.specs.Results.{Reply, reply, init_strings, long_name, reset_strings, IsSent, Sends, sent, refused}
use Rattle.tools_tput.specs.Results.{AnswersString, as_it_stands, by_expansion, by_fault, by_overflow}
use Rattle.tools_tput.specs.Results.{AreSent, no_string, absent, present, OneAsksForTooMuch, at_first, later, SendsAll, all_sent, one_refused}
use Rattle.tools_tput.specs.Results.{AnswersText, AnswersContent, AnswersCapability}
use Rattle.tools_tput.specs.Results.{AnswersName, of_longname, of_init, of_reset, of_capability, Answers, no_word, too_many, answered, HasOneAnswer}
use Rattle.tools_tput.specs.Runs.{RunState, TakesWords, no_words, of_command, BadCommandsChangeNothing}
use Rattle.tools_tput.specs.inside.Commands.{AnswersWords}
use Rattle.tools_tput.specs.inside.Results.{padded_text, sent_reply, expansion_reply, string_reply, padded_texts, text_reply, content_reply, capability_reply}
use Rattle.tools_tput.specs.inside.Results.{named_reply, tput_result}
use Rattle.tools_tput.specs.inside.Runs.{command_step}
use Rattle.tools_tput.specs.declared.replies.TputOutcome.{TputOutcome}
use Rattle.tools_tput.proofs.Expanded.{expands_computed, overflows_computed, stuck_computed}
use Rattle.tools_tput.proofs.Padded.{padded_text-some, padded_text-none}
use Rattle.tools_tput.proofs.Replying.{bad-leaves}

-- ---- a string that is padded

abbrev PaddedSo : Line → List ℕ → Option (List ℕ) → Type 0
PaddedSo line text None = AsksForTooMuch text 1 line
PaddedSo line text (Some bytes) = IsSent line text bytes

padded_so : (line : Line) (text : List ℕ) → PaddedSo line text (padded_text line text)
padded_so line text =
    elim (ltb 65536 (padding_of text 1 line)) as (λ b. ltb 65536 (padding_of text 1 line) ≡ b
    → PaddedSo line text (cond b None (Some (with_pad_bytes text 1 line)))) [
      | true ↦ λ e. (too_much_computed text 1 line).1 (ltb-true _ _ e)
      | false ↦ λ e. record {
        padded = padded_is text 1 line _ refl;
        few = λ asks. let many = (too_much_computed text 1 line).0 asks in let least = ltb-false _ _ e in omega (arith, many, least);
      }
    ] refl

sends : (line : Line) (text : List ℕ) (before after : List ℤ) (o : Option (List ℕ)) → PaddedSo line text o
    → Sends line text before after (sent_reply o before after)
sends line text before after None asks = refused asks
sends line text before after (Some bytes) is = sent is

-- of a string that was made so
pub sends_made : (line : Line) (text : List ℕ) (before after : List ℤ) (o : Option (List ℕ)) → o ≡ padded_text line text
    → Sends line text before after (sent_reply o before after)
sends_made line text before after o is =
    subst (λ (p : Option (List ℕ)). Sends line text before after (sent_reply p before after)) (sym is)
    (sends line text before after (padded_text line text) (padded_so line text))

sends_computed : (line : Line) (text : List ℕ) (before after : List ℤ) (answer : Reply) → Sends line text before after answer →
    answer ≡ sent_reply (padded_text line text) before after
sends_computed line text before after _ (sent {bytes} is) = ap (λ o. sent_reply o before after) (padded_text-some line text bytes is.padded is.few)
sends_computed line text before after _ (refused asks) = ap (λ o. sent_reply o before after) (padded_text-none line text asks)

-- ---- a string that is expanded

abbrev ExpansionSo : List ℕ → List FormatArgument → List ℤ → Expansion → Type 0
ExpansionSo text arguments statics (expanded output after) = Expands text arguments statics output after
ExpansionSo text arguments statics (bad_format place) = IsStuck text place
ExpansionSo text arguments statics (stack_full place) = Overflows text arguments statics place

expansion_so : (text : List ℕ) (arguments : List FormatArgument) (statics : List ℤ)
    → ExpansionSo text arguments statics (format_expansion text arguments statics)
unfolding format_expansion
expansion_so text arguments statics = by_stuck (stuck_place text) refl
  where
    ran : stuck_place text ≡ None → (o : MachineOutcome) → meaning (tree_of text) (start arguments statics) ≡ o
        → ExpansionSo text arguments statics (expansion_by o)
    ran none (Ok final) is = record {
      tree = tree_of text;
      is_tree = ((is_computed text).tree (tree_of text)).1 (none, refl);
      final = final;
      runs = is;
      output_is = refl;
      statics_are = refl;
    }
    ran none (Err place) is = record { tree = tree_of text; is_tree = ((is_computed text).tree (tree_of text)).1 (none, refl); runs = is }

    by_stuck : (o : Option ℕ) → stuck_place text ≡ o → ExpansionSo text arguments statics (unless_stuck o (meaning (tree_of text) (start arguments statics)))
    by_stuck None e = ran e (meaning (tree_of text) (start arguments statics)) refl
    by_stuck (Some place) e = ((is_computed text).stuck place).1 e

pub string_so : (line : Line) (cap : List ℕ) (words : List (List ℕ)) (statics : List ℤ) (text : List ℕ) →
    AnswersString line cap words statics text (string_reply line cap words statics text)
string_so line cap [] statics text = as_it_stands (sends line text statics statics (padded_text line text) (padded_so line text))
string_so line cap (word ∷ words) statics text =
    of_expansion (format_expansion text (parameters cap (word ∷ words)) statics) (expansion_so text (parameters cap (word ∷ words)) statics)
  where
    of_expansion : (e : Expansion) → ExpansionSo text (parameters cap (word ∷ words)) statics e
        → AnswersString line cap (word ∷ words) statics text (expansion_reply line statics e)
    of_expansion (expanded output after) h = by_expansion h (sends line output statics after (padded_text line output) (padded_so line output))
    of_expansion (bad_format place) h = by_fault h
    of_expansion (stack_full place) h = by_overflow h

pub string_computed : (line : Line) (cap : List ℕ) (words : List (List ℕ)) (statics : List ℤ) (text : List ℕ) (answer : Reply) →
    AnswersString line cap words statics text answer → answer ≡ string_reply line cap words statics text
string_computed line cap [] statics text answer (as_it_stands s) = sends_computed line text statics statics answer s
string_computed line cap (word ∷ words) statics text answer (by_expansion {after = after} {output = output} h s) =
    sends_computed line output statics after answer s
    ∙ ap (expansion_reply line statics) (sym (expands_computed text (parameters cap (word ∷ words)) statics output after h))
string_computed line cap (word ∷ words) statics text _ (by_fault {place = place} h) =
    ap (expansion_reply line statics) (sym (stuck_computed text (parameters cap (word ∷ words)) statics place h))
string_computed line cap (word ∷ words) statics text _ (by_overflow {place = place} h) =
    ap (expansion_reply line statics) (sym (overflows_computed text (parameters cap (word ∷ words)) statics place h))

-- ---- several strings

abbrev TextsSo : Line → List (Option (List ℕ)) → Option (List ℕ) → Type 0
TextsSo line texts None = OneAsksForTooMuch line texts
TextsSo line texts (Some bytes) = AreSent line texts bytes

both_so : (line : Line) (text : List ℕ) (texts : List (Option (List ℕ))) (o p : Option (List ℕ)) → PaddedSo line text o → TextsSo line texts p →
    TextsSo line (Some text ∷ texts) (both_lists o p)
both_so line text texts None p a b = at_first a
both_so line text texts (Some xs) None a b = later b
both_so line text texts (Some xs) (Some ys) a b = present a b

absent_so : (line : Line) (texts : List (Option (List ℕ))) (p : Option (List ℕ)) → TextsSo line texts p → TextsSo line (None ∷ texts) p
absent_so line texts None b = later b
absent_so line texts (Some bytes) b = absent b

texts_so : (line : Line) (texts : List (Option (List ℕ))) → TextsSo line texts (padded_texts line texts)
texts_so line [] = no_string
texts_so line (None ∷ texts) = absent_so line texts (padded_texts line texts) (texts_so line texts)
texts_so line (Some text ∷ texts) = both_so line text texts (padded_text line text) (padded_texts line texts) (padded_so line text) (texts_so line texts)

are_computed : (line : Line) (texts : List (Option (List ℕ))) (bytes : List ℕ) → AreSent line texts bytes → Some bytes ≡ padded_texts line texts
are_computed line _ _ no_string = refl
are_computed line _ bytes (absent {texts} s) = are_computed line texts bytes s
are_computed line _ _ (present {text} {front} {bytes} {texts} is s) =
    ap (λ o. both_lists o (Some bytes)) (padded_text-some line text front is.padded is.few)
    ∙ ap (both_lists (padded_text line text)) (are_computed line texts bytes s)

both_none : (o : Option (List ℕ)) → None ≡ both_lists o None
both_none None = refl
both_none (Some xs) = refl

one_computed : (line : Line) (texts : List (Option (List ℕ))) → OneAsksForTooMuch line texts → None ≡ padded_texts line texts
one_computed line _ (at_first {text} {texts} asks) = ap (λ o. both_lists o (padded_texts line texts)) (padded_text-none line text asks)
one_computed line (None ∷ texts) (later one) = one_computed line texts one
one_computed line (Some text ∷ texts) (later one) = both_none (padded_text line text) ∙ ap (both_lists (padded_text line text)) (one_computed line texts one)

sends_all : (line : Line) (texts : List (Option (List ℕ))) (statics : List ℤ) (o : Option (List ℕ)) → TextsSo line texts o
    → SendsAll line texts statics (sent_reply o statics statics)
sends_all line texts statics None one = one_refused one
sends_all line texts statics (Some bytes) all = all_sent all

all_so : (line : Line) (texts : List (Option (List ℕ))) (statics : List ℤ) → SendsAll line texts statics (sent_reply (padded_texts line texts) statics statics)
all_so line texts statics = sends_all line texts statics (padded_texts line texts) (texts_so line texts)

all_computed : (line : Line) (texts : List (Option (List ℕ))) (statics : List ℤ) (answer : Reply) → SendsAll line texts statics answer →
    answer ≡ sent_reply (padded_texts line texts) statics statics
all_computed line texts statics _ (all_sent {bytes} all) = ap (λ o. sent_reply o statics statics) (are_computed line texts bytes all)
all_computed line texts statics _ (one_refused one) = ap (λ o. sent_reply o statics statics) (one_computed line texts one)

-- ---- a capability, a name, a command

text_so : (line : Line) (cap : List ℕ) (words : List (List ℕ)) (statics : List ℤ) (text : Option (List ℕ))
    → AnswersText line cap words statics text (text_reply line cap words statics text)
text_so line cap words statics None = refl
text_so line cap words statics (Some text) = string_so line cap words statics text

text_computed : (line : Line) (cap : List ℕ) (words : List (List ℕ)) (statics : List ℤ) (text : Option (List ℕ)) (answer : Reply) →
    AnswersText line cap words statics text answer → answer ≡ text_reply line cap words statics text
text_computed line cap words statics None answer is = is
text_computed line cap words statics (Some text) answer is = string_computed line cap words statics text answer is

content_so : (line : Line) (cap : List ℕ) (words : List (List ℕ)) (statics : List ℤ) (kind : Kind) (content : Option Content)
    → AnswersContent line cap words statics kind content (content_reply line cap words statics kind content)
content_so line cap words statics Flag content = refl
content_so line cap words statics Number content = refl
content_so line cap words statics Text content = text_so line cap words statics (shown_text content)

content_computed : (line : Line) (cap : List ℕ) (words : List (List ℕ)) (statics : List ℤ) (kind : Kind) (content : Option Content) (answer : Reply) →
    AnswersContent line cap words statics kind content answer → answer ≡ content_reply line cap words statics kind content
content_computed line cap words statics Flag content answer is = is
content_computed line cap words statics Number content answer is = is
content_computed line cap words statics Text content answer is = text_computed line cap words statics (shown_text content) answer is

capability_so : (line : Line) (cap : List ℕ) (words : List (List ℕ)) (statics : List ℤ) (contents : Contents) (c : Option Capability)
    → AnswersCapability line cap words statics contents c (capability_reply line cap words statics contents c)
capability_so line cap words statics contents None = refl
capability_so line cap words statics contents (Some c) = content_so line cap words statics c.kind (contents c)

capability_computed : (line : Line) (cap : List ℕ) (words : List (List ℕ)) (statics : List ℤ) (contents : Contents) (c : Option Capability) (answer : Reply) →
    AnswersCapability line cap words statics contents c answer → answer ≡ capability_reply line cap words statics contents c
capability_computed line cap words statics contents None answer is = is
capability_computed line cap words statics contents (Some c) answer is = content_computed line cap words statics c.kind (contents c) answer is

module _ (entry : Entry) (rate : ℕ) (cap : List ℕ) (words : List (List ℕ)) (statics : List ℤ) where
  abbrev of_strings : List (Option (List ℕ)) → Reply
  of_strings texts = sent_reply (padded_texts (line_at_rate entry rate) texts) statics statics

  abbrev of_cap : Reply
  of_cap = capability_reply (line_at_rate entry rate) cap words statics entry.contents (capability_named cap)

  reset_so : (b : Bool) → bytes_eq cap (codes "longname") ≡ false → bytes_eq cap (codes "init") ≡ false → bytes_eq cap (codes "reset") ≡ b →
      AnswersName entry rate cap words statics (cond b (of_strings (reset_strings entry)) of_cap)
  reset_so true long init reset = of_reset long init reset (all_so (line_at_rate entry rate) (reset_strings entry) statics)
  reset_so false long init reset =
      of_capability long init reset (capability_so (line_at_rate entry rate) cap words statics entry.contents (capability_named cap))

  init_so : (b : Bool) → bytes_eq cap (codes "longname") ≡ false → bytes_eq cap (codes "init") ≡ b →
      AnswersName entry rate cap words statics (cond b (of_strings (init_strings entry))
      (cond (bytes_eq cap (codes "reset")) (of_strings (reset_strings entry)) of_cap))
  init_so true long init = of_init long init (all_so (line_at_rate entry rate) (init_strings entry) statics)
  init_so false long init = reset_so (bytes_eq cap (codes "reset")) long init refl

  long_so : (b : Bool) → bytes_eq cap (codes "longname") ≡ b →
      AnswersName entry rate cap words statics (cond b (reply (long_name entry.names) 0 statics)
      (cond (bytes_eq cap (codes "init")) (of_strings (init_strings entry))
      (cond (bytes_eq cap (codes "reset")) (of_strings (reset_strings entry)) of_cap)))
  long_so true long = of_longname long
  long_so false long = init_so (bytes_eq cap (codes "init")) long refl

  name_so : AnswersName entry rate cap words statics (named_reply entry rate cap words statics)
  name_so = long_so (bytes_eq cap (codes "longname")) refl

  name_computed : (answer : Reply) → AnswersName entry rate cap words statics answer → answer ≡ named_reply entry rate cap words statics
  name_computed _ (of_longname long) = rw long refl
  name_computed answer (of_init long init all) =
      let is = all_computed (line_at_rate entry rate) (init_strings entry) statics answer all in rw (long, init) is
  name_computed answer (of_reset long init reset all) =
      let is = all_computed (line_at_rate entry rate) (reset_strings entry) statics answer all in rw (long, init, reset) is
  name_computed answer (of_capability long init reset named) =
      let is = capability_computed (line_at_rate entry rate) cap words statics entry.contents (capability_named cap) answer named in rw (long, init, reset) is

pub result_so : (entry : Entry) (rate : ℕ) (statics : List ℤ) (words : List (List ℕ)) → Answers entry rate statics words (tput_result entry words rate statics)
unfolding tput_result
result_so entry rate statics [] = no_word
result_so entry rate statics (cap ∷ words) =
    elim (ltb 9 (length words)) as (λ b. ltb 9 (length words) ≡ b
    → Answers entry rate statics (cap ∷ words) (cond b None (Some (named_reply entry rate cap words statics)))) [
      | true ↦ λ e. too_many (ltb-true _ _ e)
      | false ↦ λ e. answered (ltb-false _ _ e) (name_so entry rate cap words statics)
    ] refl

pub result_computed : (entry : Entry) (rate : ℕ) (statics : List ℤ) (words : List (List ℕ)) (answer : Option Reply) → Answers entry rate statics words answer →
    answer ≡ tput_result entry words rate statics
unfolding tput_result
result_computed entry rate statics _ _ no_word = refl
result_computed entry rate statics _ _ (too_many {cap} {words} many) = rw (lt-ltb _ _ many) refl
result_computed entry rate statics _ _ (answered {cap} {words} {answer} few name) =
    elim (ltb 9 (length words)) as (λ b. ltb 9 (length words) ≡ b → Some answer ≡ cond b None (Some (named_reply entry rate cap words statics))) [
      | true ↦ λ e. let many = ltb-true _ _ e in absurd (omega (arith, many, few))
      | false ↦ λ e. ap Some (name_computed entry rate cap words statics answer name)
    ] refl

-- ---- the laws

pub one_answer : (entry : Entry) (rate : ℕ) (statics : List ℤ) (words : List (List ℕ)) → HasOneAnswer entry rate statics words
one_answer entry rate statics words = record {
  some = (tput_result entry words rate statics, result_so entry rate statics words);
  one = λ answer other is is_other. result_computed entry rate statics words answer is ∙ sym (result_computed entry rate statics words other is_other);
}

pub bad_commands : BadCommandsChangeNothing
bad_commands entry words rate statics answer is four = bad-leaves entry words rate statics answer
    (sym (result_computed entry rate statics words (Some answer) is)) four

-- ---- the answer to a command, and what comes of lines

pub command_answered : (entry : Entry) (rate : ℕ) (statics after : List ℤ) (words : List (List ℕ)) (result : Result TputOutcome ToolError) →
    AnswersWords result after (tput_result entry words rate statics) → AnswersCommand entry rate statics words result
command_answered entry rate statics after words (Ok outcome) is = (after, subst (Answers entry rate statics words) is (result_so entry rate statics words))
command_answered entry rate statics after words (Err Usage) is = subst (Answers entry rate statics words) is (result_so entry rate statics words)
command_answered entry rate statics after words (Err Memory) is = some (tput_result entry words rate statics) refl is
  where
    some : (o : Option Reply) → tput_result entry words rate statics ≡ o → AnswersWords (Err Memory) after o
        → (answer : Reply) × Answers entry rate statics words (Some answer)
    some None e h = absurd (cc h)
    some (Some answer) e h = (answer, subst (Answers entry rate statics words) e (result_so entry rate statics words))
command_answered entry rate statics after words (Err NoTerminal) is = absurd is
command_answered entry rate statics after words (Err (BadEntry why)) is = absurd is
command_answered entry rate statics after words (Err ReadFault) is = absurd is
command_answered entry rate statics after words (Err WriteFault) is = absurd is
command_answered entry rate statics after words (Err LineTooLong) is = absurd is
command_answered entry rate statics after words (Err (BlockTooLong n)) is = absurd is
command_answered entry rate statics after words (Err TooManyBlocks) is = absurd is

pub words_taken : (entry : Entry) (rate : ℕ) (state : RunState) (words : List (List ℕ))
    → TakesWords entry rate state words (command_step entry rate state words)
words_taken entry rate state [] = no_words
words_taken entry rate state (word ∷ words) = of_command (result_so entry rate state.statics (word ∷ words))
