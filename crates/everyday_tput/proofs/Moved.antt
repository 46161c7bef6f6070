-- What needs no variables is answered alike with others.
use Rattle.std.proofs.Common.{◌≡◌, ℕ, ◌||◌, Bool, false, List, [], ◌∷◌, Option, Some, None, refl, sym, subst, ap}
use Rattle.std.specs.Prelude.{bytes_eq, codes, ℤ}
use Rattle.ti_caps.specs.Tables.{Capability, capability_named}
use Rattle.ti_caps.specs.declared.capability.Kind.{Kind}
use Rattle.ti_caps.specs.declared.capability.Kind.TheVariants as kinds
use Rattle.ti_layout.specs.Values.{Content, Contents}
use Rattle.ti_layout.specs.View.{shown_text}
use Rattle.ti_printing.specs.declared.padding.Line.{Line}
use Rattle.tools_tput.specs.Entries.{line_at_rate}
use Rattle.tools_tput.specs.Results as results
use Rattle.tools_tput.specs.Results.{AnswersCapability, AnswersContent, AnswersName, AnswersText, Reply, SendsAll, reply}
use Rattle.tools_tput.specs.Results.{all_sent, answered, of_capability, of_init, of_longname, of_reset, one_refused}
use Rattle.everyday_tput.specs.Answers.{FullEntry, HasNoTableText}

abbrev pub moved : Reply → List ℤ → Reply
moved r statics = reply r.bytes r.status statics

moved_all : (line : Line) (texts : List (Option (List ℕ))) (s t : List ℤ) (answer : Reply) → SendsAll line texts s answer
    → SendsAll line texts t (moved answer t)
moved_all line texts s t _ (all_sent h) = all_sent h
moved_all line texts s t _ (one_refused h) = one_refused h

moved_content : (line : Line) (cap : List ℕ) (words : List (List ℕ)) (s t : List ℤ) (k : Kind) (content : Option Content) (answer : Reply)
    → (k ≡ kinds.Text → shown_text content ≡ None) → AnswersContent line cap words s k content answer
    → AnswersContent line cap words t k content (moved answer t)
moved_content line cap words s t kinds.Flag content answer none is = ap (λ r. moved r t) is
moved_content line cap words s t kinds.Number content answer none is = ap (λ r. moved r t) is
moved_content line cap words s t kinds.Text content answer none is =
    let e = none refl in
    let same : answer ≡ reply [] 1 s = subst (λ o. AnswersText line cap words s o answer) e is in
    subst (λ o. AnswersText line cap words t o (moved answer t)) (sym e) (ap (λ r. moved r t) same)

moved_cap : (line : Line) (cap : List ℕ) (words : List (List ℕ)) (s t : List ℤ) (contents : Contents) (o : Option Capability) (answer : Reply)
    → ((c : Capability) → o ≡ Some c → c.kind ≡ kinds.Text → shown_text (contents c) ≡ None)
    → AnswersCapability line cap words s contents o answer → AnswersCapability line cap words t contents o (moved answer t)
moved_cap line cap words s t contents None answer none is = ap (λ r. moved r t) is
moved_cap line cap words s t contents (Some c) answer none is = moved_content line cap words s t c.kind (contents c) answer (none c refl) is

own_by : (a b c d : Bool) → a ≡ false → b ≡ false → c ≡ false → d ≡ false → (a || b || c || d) ≡ false
own_by a b c d e f g h = rw (e, f, g, h) refl

moved_name : (e : FullEntry) (rate : ℕ) (cap : List ℕ) (words : List (List ℕ)) (s t : List ℤ) (answer : Reply) → bytes_eq cap (codes "clear") ≡ false
    → HasNoTableText e cap → AnswersName e.entry rate cap words s answer → AnswersName e.entry rate cap words t (moved answer t)
moved_name e rate cap words s t _ d none (of_longname a) = of_longname a
moved_name e rate cap words s t _ d none (of_init {answer} a b all) = of_init a b (moved_all (line_at_rate e.entry rate) _ s t answer all)
moved_name e rate cap words s t _ d none (of_reset {answer} a b c all) = of_reset a b c (moved_all (line_at_rate e.entry rate) _ s t answer all)
moved_name e rate cap words s t _ d none (of_capability {answer} a b c is) =
    of_capability a b c (moved_cap (line_at_rate e.entry rate) cap words s t e.entry.contents (capability_named cap) answer
    (none (own_by (bytes_eq cap (codes "longname")) (bytes_eq cap (codes "init")) (bytes_eq cap (codes "reset")) (bytes_eq cap (codes "clear")) a b c d)) is)

-- the answer to a name alone
pub moved_answer : (e : FullEntry) (rate : ℕ) (s t : List ℤ) (cap : List ℕ) (all : List (List ℕ)) (o : Option Reply) (r : Reply) → all ≡ cap ∷ [] → o ≡ Some r
    → bytes_eq cap (codes "clear") ≡ false → HasNoTableText e cap → results.Answers e.entry rate s all o → AnswersName e.entry rate cap [] t (moved r t)
moved_answer e rate s t cap _ _ r is some clear none results.no_word = absurd (cc is)
moved_answer e rate s t cap _ _ r is some clear none (results.too_many many) = absurd (cc some)
moved_answer e rate s t cap _ _ r is some clear none (answered {cap = name} {words = words} {answer = answer} few names) =
    let one : name ≡ cap = cc in
    let nothing : words ≡ [] = cc in
    let same : answer ≡ r = cc in
    moved_name e rate cap [] s t r clear none
    (subst (λ x. AnswersName e.entry rate cap [] s x) same
    (subst (λ ws. AnswersName e.entry rate cap ws s answer) nothing
    (subst (λ n. AnswersName e.entry rate n words s answer) one names)))
