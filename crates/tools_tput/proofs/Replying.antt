-- What a bad command leaves, and lines one after another.
use Rattle.std.proofs.Common.{◌≡◌, ◌≢◌, ℕ, suc, ◌<◌, ◌≤◌, Bool, true, false, List, [], ◌∷◌, length, take, Option}
use Rattle.std.proofs.Common.{Some, None, refl, sym, subst, ap, ◌∙◌, cond, bytes_eq, ltb, arith}
use Rattle.std.specs.Prelude.{codes, ℤ}
use Rattle.std.proofs.lemmas.Bool.{lt-ltb, ne_eqb, ltb-true, ltb-false}
use Rattle.std.proofs.lemmas.List.{take_all, length-take, nil_from_length}
use Rattle.ti_param.specs.inside.Expansion.{Expansion, expanded, bad_format, stack_full, format_expansion}
use Rattle.ti_printing.specs.declared.padding.Line.{Line}
use Rattle.ti_layout.specs.View.{Entry}
use Rattle.ti_caps.specs.Tables.{Capability, capability_named}
use Rattle.ti_caps.specs.declared.capability.Kind.{Kind}
use Rattle.ti_caps.specs.declared.capability.Kind.TheVariants.{Flag, Number, Text}
use Rattle.ti_layout.specs.Values.{Content, Contents}
use Rattle.ti_layout.specs.View.{shown_text}
use Rattle.tools_tput.specs.Entries.{line_at_rate}
use Rattle.tools_tput.specs.Parameters.{parameters}
use Rattle.tools_tput.specs.Results.{Reply, bad_status, init_strings, reset_strings}
use Rattle.tools_tput.specs.inside.Results.{text_reply, content_reply, capability_reply, named_reply, padded_texts, padded_text, sent_reply}
use Rattle.tools_tput.specs.inside.Results.{expansion_reply, string_reply, tput_result}
use Rattle.tools_tput.specs.Runs.{RunState, bad_step, reply_step, words_of}
use Rattle.tools_tput.specs.inside.Runs.{command_step, line_step}

-- a reply of status 4 writes nothing and leaves the variables
Leaves : Reply → List ℤ → Type 0
Leaves r statics = r.status ≡ bad_status → (r.bytes ≡ []) × (r.statics ≡ statics)

sent-leaves : (made : Option (List ℕ)) (before after : List ℤ) → (sent_reply made before after).status ≡ bad_status
    → ((sent_reply made before after).bytes ≡ []) × ((sent_reply made before after).statics ≡ before)
sent-leaves None before after four = (refl, refl)
sent-leaves (Some bytes) before after four = absurd (omega arith)

expansion-leaves : (line : Line) (before : List ℤ) (e : Expansion) → (expansion_reply line before e).status ≡ bad_status
    → ((expansion_reply line before e).bytes ≡ []) × ((expansion_reply line before e).statics ≡ before)
expansion-leaves line before (expanded output after) four = sent-leaves (padded_text line output) before after four
expansion-leaves line before (bad_format place) four = (refl, refl)
expansion-leaves line before (stack_full place) four = (refl, refl)

string-leaves : (line : Line) (cap : List ℕ) (words : List (List ℕ)) (statics : List ℤ) (text : List ℕ)
    → (string_reply line cap words statics text).status ≡ bad_status
    → ((string_reply line cap words statics text).bytes ≡ []) × ((string_reply line cap words statics text).statics ≡ statics)
string-leaves line cap [] statics text four = sent-leaves (padded_text line text) statics statics four
string-leaves line cap (word ∷ words) statics text four =
    expansion-leaves line statics (format_expansion text (parameters cap (word ∷ words)) statics) four

text-leaves : (line : Line) (cap : List ℕ) (words : List (List ℕ)) (statics : List ℤ) (text : Option (List ℕ))
    → (text_reply line cap words statics text).status ≡ bad_status
    → ((text_reply line cap words statics text).bytes ≡ []) × ((text_reply line cap words statics text).statics ≡ statics)
text-leaves line cap words statics None four = (refl, refl)
text-leaves line cap words statics (Some text) four = string-leaves line cap words statics text four

content-leaves : (line : Line) (cap : List ℕ) (words : List (List ℕ)) (statics : List ℤ) (kind : Kind) (content : Option Content)
    → (content_reply line cap words statics kind content).status ≡ bad_status
    → ((content_reply line cap words statics kind content).bytes ≡ []) × ((content_reply line cap words statics kind content).statics ≡ statics)
content-leaves line cap words statics Flag content four = (refl, refl)
content-leaves line cap words statics Number content four = absurd (omega arith)
content-leaves line cap words statics Text content four = text-leaves line cap words statics (shown_text content) four

capability-leaves : (line : Line) (cap : List ℕ) (words : List (List ℕ)) (statics : List ℤ) (contents : Contents) (c : Option Capability)
    → (capability_reply line cap words statics contents c).status ≡ bad_status
    → ((capability_reply line cap words statics contents c).bytes ≡ []) × ((capability_reply line cap words statics contents c).statics ≡ statics)
capability-leaves line cap words statics contents None four = (refl, refl)
capability-leaves line cap words statics contents (Some c) four = content-leaves line cap words statics c.kind (contents c) four

-- one of two replies
either-leaves : (b : Bool) (r s : Reply) (statics : List ℤ) → (r.status ≡ bad_status → (r.bytes ≡ []) × (r.statics ≡ statics))
    → (s.status ≡ bad_status → (s.bytes ≡ []) × (s.statics ≡ statics))
    → (cond b r s).status ≡ bad_status → ((cond b r s).bytes ≡ []) × ((cond b r s).statics ≡ statics)
either-leaves true r s statics a b four = a four
either-leaves false r s statics a b four = b four

named-leaves : (entry : Entry) (rate : ℕ) (cap : List ℕ) (words : List (List ℕ)) (statics : List ℤ)
    → (named_reply entry rate cap words statics).status ≡ bad_status
    → ((named_reply entry rate cap words statics).bytes ≡ []) × ((named_reply entry rate cap words statics).statics ≡ statics)
named-leaves entry rate cap words statics =
    either-leaves (bytes_eq cap (codes "longname")) _ _ statics (λ four. absurd (omega arith))
    (either-leaves (bytes_eq cap (codes "init")) _ _ statics (sent-leaves (padded_texts (line_at_rate entry rate) (init_strings entry)) statics statics)
    (either-leaves (bytes_eq cap (codes "reset")) _ _ statics (sent-leaves (padded_texts (line_at_rate entry rate) (reset_strings entry)) statics statics)
    (capability-leaves (line_at_rate entry rate) cap words statics entry.contents (capability_named cap))))

if_not : {X : Type 0} (b : Bool) (x y : X) → cond b None (Some x) ≡ Some y → (b ≡ false) × (x ≡ y)
if_not true x y e = absurd (cc)
if_not false x y e = (refl, cc)

pub bad-leaves : (entry : Entry) (words : List (List ℕ)) (rate : ℕ) (statics : List ℤ) (r : Reply) → tput_result entry words rate statics ≡ Some r
    → r.status ≡ bad_status → (r.bytes ≡ []) × (r.statics ≡ statics)
unfolding tput_result
bad-leaves entry [] rate statics r e four = absurd (cc)
bad-leaves entry (cap ∷ words) rate statics r e four =
    let is = (if_not (ltb 9 (length words)) (named_reply entry rate cap words statics) r e).1 in
    subst (λ (x : Reply). x.status ≡ bad_status → (x.bytes ≡ []) × (x.statics ≡ statics)) is (named-leaves entry rate cap words statics) four

-- ---- eleven words are too many

many : (n : ℕ) → 10 < n → ltb 9 n ≡ true
many n low = lt-ltb 9 n (omega arith)

pub tput_result-front : (entry : Entry) (words : List (List ℕ)) (rate : ℕ) (statics : List ℤ)
    → tput_result entry (take 11 words) rate statics ≡ tput_result entry words rate statics
unfolding tput_result
tput_result-front entry [] rate statics = refl
tput_result-front entry (cap ∷ words) rate statics =
    elim (ltb 10 (length words)) as (λ b. ltb 10 (length words) ≡ b
    → cond (ltb 9 (length (take 10 words))) None (Some (named_reply entry rate cap (take 10 words) statics))
    ≡ cond (ltb 9 (length words)) None (Some (named_reply entry rate cap words statics))) [
      | true ↦ λ e. let low : 10 < length words = ltb-true _ _ e in
          let front : ltb 9 (length (take 10 words)) ≡ true = lt-ltb _ _ (omega (arith, length-take 10 words)) in
          let all : ltb 9 (length words) ≡ true = lt-ltb _ _ (omega arith) in
          rw (front, all) refl
      | false ↦ λ e. let high : length words ≤ 10 = ltb-false _ _ e in rw (take_all 10 words high) refl
    ] refl

-- ---- what comes of a line

nothing-front : (words : List (List ℕ)) (n : ℕ) → take (suc n) words ≡ [] → words ≡ []
nothing-front [] n e = refl
nothing-front (word ∷ words) n e = absurd (cc)

some-step : (entry : Entry) (rate : ℕ) (state : RunState) (words : List (List ℕ)) → 0 < length words
    → command_step entry rate state words ≡ reply_step state (tput_result entry words rate state.statics)
some-step entry rate state [] some = absurd (omega arith)
some-step entry rate state (word ∷ words) some = refl

module _ (entry : Entry) (rate : ℕ) (state : RunState) (line : List ℕ) (words : List (List ℕ)) (front : words ≡ take 11 (words_of line)) where
  pub step-empty : length words ≡ 0 → line_step entry rate state line ≡ record { after = state; bytes = [] }
  step-empty none =
      let empty : words ≡ [] = nil_from_length words none in
      rw (nothing-front (words_of line) 10 (sym front ∙ empty)) refl

  step-replied : 0 < length words → line_step entry rate state line ≡ reply_step state (tput_result entry words rate state.statics)
  step-replied some =
      let len : length words ≡ length (take 11 (words_of line)) = ap length front in
      let more : 0 < length (words_of line) = omega (arith, length-take 11 (words_of line)) in
      some-step entry rate state (words_of line) more
      ∙ ap (reply_step state) (sym (ap (λ (w : List (List ℕ)). tput_result entry w rate state.statics) front
      ∙ tput_result-front entry (words_of line) rate state.statics))

  pub step-usage : 0 < length words → tput_result entry words rate state.statics ≡ None → line_step entry rate state line ≡ bad_step state
  step-usage some none = step-replied some ∙ ap (reply_step state) none

  pub step-good : 0 < length words → (r : Reply) → tput_result entry words rate state.statics ≡ Some r → r.status ≢ bad_status
      → line_step entry rate state line ≡ record { after = record { bad = state.bad; statics = r.statics }; bytes = r.bytes }
  step-good some r is other = step-replied some ∙ ap (reply_step state) is ∙ rw (ne_eqb r.status 4 other) refl

  pub step-bad : 0 < length words → (r : Reply) → tput_result entry words rate state.statics ≡ Some r → r.status ≡ bad_status
      → (line_step entry rate state line ≡ bad_step state) × (r.bytes ≡ []) × (r.statics ≡ state.statics)
  step-bad some r is four =
      let left = bad-leaves entry words rate state.statics r is four in
      (step-replied some ∙ ap (reply_step state) is ∙ rw four refl, left.0, left.1)
