-- The values of the tables after changes.
use Rattle.std.proofs.Common.{◌≡◌, ◌≢◌, ℕ, suc, ◌+◌, ◌<◌, ◌≤◌, Bool, true, false, cond, eqb, ltb, nat_lt, ◌==◌, List, [], ◌∷◌, length, get_or, drop}
use Rattle.std.proofs.Common.{Option, Some, None, refl, sym, ap, ◌∙◌, subst, arith, inl, inr}
use Rattle.std.specs.Prelude.{IfSome, All, option_and_then, slice_get, slice_index}
use Rattle.std.specs.List.{before_first, position_or_len}
use Rattle.std.specs.Str.{bytes_eq}
use Rattle.std.specs.Cmp.Lexicographic.{bytes_decides}
use Rattle.std.proofs.lemmas.Bool.{cases_lt, ltb-true}
use Rattle.std.proofs.lemmas.List.{get_or-take, length-take}
use Rattle.std.proofs.lemmas.List.Sums.{fails_before_first}
use Rattle.ti_text.specs.Texts.{HasNoNul}
use Rattle.ti_caps.specs.Tables.{Capability, IsCapability, capability, capability_named, name_of}
use Rattle.ti_caps.specs.declared.capability.Kind.{Kind}
use Rattle.ti_caps.specs.declared.capability.Kind.TheVariants.{Flag, Number, Text}
use Rattle.ti_layout.specs.declared.layout.Format.{Format}
use Rattle.ti_layout.specs.declared.layout.Format.TheVariants.{Legacy, Extended}
use Rattle.ti_layout.specs.declared.view.View.{View}
use Rattle.ti_layout.specs.Layout.{first_negative}
use Rattle.ti_layout.specs.Laws.{without_cancel}
use Rattle.ti_layout.specs.Reading.{numbers_in, says, stored_flag, stored_number, stored_text}
use Rattle.ti_layout.specs.Values.{Agrees, AgreesIfSome, Content, Contents, Mention, contents, content_true, content_number, content_text, content_cancelled}
use Rattle.ti_layout.specs.View.{view_contents}
use Rattle.user_extension.specs.UserDefined.{IsValue}
use Rattle.ti_text.specs.Limits.{names_max}
use Rattle.ti_caps.specs.Tables.{EveryNameIsFound}
use Rattle.user_extension.specs.Extension.{entry, entry_limit}
use Rattle.user_extension.specs.Laws.{EntriesAreRead}
use Rattle.user_extension.specs.Reading.{ReadRow, said}
use Rattle.user_extension.specs.UserDefined.{Row}
use Rattle.user_changing.specs.Changes.{CanBeMade, Edit, HoldsChanged, MayHave, ReadsChanged, after}

-- ---- an entry has what its capabilities may have

-- what stands before the first NUL has none
clean : (xs : List ℕ) → HasNoNul (before_first (λ b. eqb b 0) xs)
clean xs k d lt e =
    let n = position_or_len (λ (b : ℕ). eqb b 0) xs in
    let l : k < n = omega (arith, lt, length-take n xs) in
    let z : get_or xs k d ≡ 0 = sym (get_or-take n xs k d l) ∙ e in
    let never : true ≡ false = sym (ap (λ (x : ℕ). eqb x 0) z) ∙ fails_before_first (λ (b : ℕ). eqb b 0) xs k d l in
    absurd cc

-- a value of a kind, as an entry may hold it
abbrev Holds : Kind → Content → Type 0
Holds kind content = (i : ℕ) → MayHave (Some (capability kind i)) content

flag_holds : (n : ℕ) → IfSome (stored_flag n) (Holds Flag)
flag_holds n = elim (n == 1) as (λ b. IfSome (cond b (Some content_true) None) (Holds Flag)) [ true ↦ λ i. (refl, tt) | false ↦ tt ]

number_under : (w : Format) (n : ℕ) (b : Bool) → ltb n (first_negative w) ≡ b → IfSome (cond b (Some (content_number n)) None) (Holds Number)
number_under Legacy n true e = let l = ltb-true n 32768 e in λ i. ((refl, omega (arith, l)), omega (arith, l))
number_under Extended n true e = let l = ltb-true n 2147483648 e in λ i. ((refl, omega (arith, l)), omega (arith, l))
number_under w n false e = tt

text_holds : (table : List ℕ) (n : ℕ) → IfSome (stored_text table n) (Holds Text)
text_holds table n =
    elim (nat_lt n (first_negative Legacy)) as (λ b. IfSome (cond b (Some (content_text (before_first (λ (b : ℕ). eqb b 0) (drop n table)))) None) (Holds Text)) [
      | true ↦ λ i. ((refl, clean (drop n table)), clean (drop n table))
      | false ↦ tt
    ]

and_then_holds : (kind : Kind) (f : ℕ → Option Content) (o : Option ℕ) → ((n : ℕ) → IfSome (f n) (Holds kind)) → IfSome (option_and_then f o) (Holds kind)
and_then_holds kind f None h = tt
and_then_holds kind f (Some n) h = h n

says_holds : (w : Format) (flags numbers offsets strings : List ℕ) (kind : Kind) (i : ℕ) → IfSome (says w flags numbers offsets strings kind i) (Holds kind)
says_holds w flags numbers offsets strings Flag i = flag_holds (slice_index flags i)
says_holds w flags numbers offsets strings Number i =
    and_then_holds Number (stored_number w) (slice_get numbers i) (λ n. number_under w n (nat_lt n (first_negative w)) refl)
says_holds w flags numbers offsets strings Text i = and_then_holds Text (stored_text strings) (slice_get offsets i) (text_holds strings)

if_some_at : (o : Option Content) (kind : Kind) (i : ℕ) → IfSome o (Holds kind) → IfSome o (MayHave (Some (capability kind i)))
if_some_at None kind i h = tt
if_some_at (Some x) kind i h = h i

pub view_holds : (v : View) (c : Capability) → IfSome (view_contents v c) (MayHave (Some c))
view_holds v c =
    if_some_at (view_contents v c) c.kind c.index
    (says_holds v.format v.flags.now (numbers_in v.format v.numbers.now) (numbers_in Legacy v.offsets.now) v.strings.now c.kind c.index)

-- ---- and so it does after changes

one_may_have : (e : Edit) (c : Capability) (name : List ℕ) (held : Option Content) (b : Bool) → bytes_eq e.0 name ≡ b → CanBeMade e
    → capability_named name ≡ Some c → IfSome held (MayHave (Some c)) → IfSome (cond b e.1 held) (MayHave (Some c))
one_may_have e c name held true t can named h =
    let here : e.0 ≡ name = (bytes_decides e.0 name).0 t in
    subst (λ o. IfSome e.1 (MayHave o)) (ap capability_named here ∙ named) can.value
one_may_have e c name held false f can named h = h

pub after_may_have : (es : List Edit) (c : Capability) (name : List ℕ) (held : Option Content) → All CanBeMade es → capability_named name ≡ Some c
    → IfSome held (MayHave (Some c)) → IfSome (after es name held) (MayHave (Some c))
after_may_have [] c name held can named h = h
after_may_have (e ∷ es) c name held can named h =
    after_may_have es c name (cond (bytes_eq e.0 name) e.1 held) (λ k d l. can (suc k) d (omega (arith, l))) named
    (one_may_have e c name held (bytes_eq e.0 name) refl (can 0 e (omega arith)) named h)

pub agrees : (c : Capability) (o : Option Content) → IfSome o (MayHave (Some c)) → AgreesIfSome c o
agrees c None h = tt
agrees c (Some x) h = h.0

-- what a capability has after changes is what it may have
pub given_agrees : (es : List Edit) (c : Capability) (v : View) (name : List ℕ) (held has : Option Content) (x y : Content) → All CanBeMade es
    → capability_named (name_of c) ≡ Some c → name ≡ name_of c → held ≡ view_contents v c → has ≡ after es name held → has ≡ Some x → y ≡ x → Agrees c y
given_agrees es c v name held has x y can named is_name is_held is_after is_some same =
    let all : after es (name_of c) (view_contents v c) ≡ Some x =
    sym (is_after ∙ ap (λ n. after es n held) is_name ∙ ap (after es (name_of c)) is_held) ∙ is_some in
    subst (Agrees c) (sym same)
    (subst (AgreesIfSome c) all (agrees c (after es (name_of c) (view_contents v c)) (after_may_have es c (name_of c) (view_contents v c) can named (view_holds v c))))

-- no cancel is among such values
pub not_cancelled : (c : Capability) (o : Option Content) → IfSome o (MayHave (Some c)) → without_cancel o ≡ o
not_cancelled c None h = refl
not_cancelled c (Some content_true) h = refl
not_cancelled c (Some (content_number n)) h = refl
not_cancelled c (Some (content_text t)) h = refl
not_cancelled c (Some content_cancelled) h = absurd h.1

pub is_value : (o : Option Capability) (x : Option Content) → IfSome x (MayHave o) → IfSome x IsValue
is_value None None h = tt
is_value None (Some x) h = h
is_value (Some c) None h = tt
is_value (Some c) (Some x) h = h.1

-- ---- capability by capability

abbrev pub GivenBelow : List Edit → Contents → Kind → ℕ → List Mention → Type 0
GivenBelow es held kind n table =
    (c : Capability) → IsCapability c → c.kind ≡ kind → c.index < n → contents table c ≡ after es (name_of c) (held c)

pub given_more : (es : List Edit) (held : Contents) (kind : Kind) (k : ℕ) (old new : List Mention) → GivenBelow es held kind k old
    → contents new (capability kind k) ≡ after es (name_of (capability kind k)) (held (capability kind k))
    → ((c : Capability) → c ≢ capability kind k → contents new c ≡ contents old c) → GivenBelow es held kind (k + 1) new
given_more es held kind k old new before here others c valid of_kind l = elim (cases_lt c.index k) [
  | inl below ↦ others c (λ (e : c ≡ capability kind k). let i = ap (λ (d : Capability). d.index) e in omega (arith, i, below)) ∙ before c valid of_kind below
  | inr not_below ↦
      let at : c.index ≡ k = omega (arith, l, not_below) in
      let is : capability kind k ≡ c = ap (λ i. capability kind i) (sym at) ∙ ap (λ (n : Kind). capability n c.index) (sym of_kind) in
      subst (λ (d : Capability). contents new d ≡ after es (name_of d) (held d)) is here
]

pub others_more : (kind : Kind) (k : ℕ) (start old new : List Mention) → ((c : Capability) → c.kind ≢ kind → contents old c ≡ contents start c)
    → ((c : Capability) → c ≢ capability kind k → contents new c ≡ contents old c) → (c : Capability) → c.kind ≢ kind
    → contents new c ≡ contents start c
others_more kind k start old new before others c apart = others c (λ (e : c ≡ capability kind k). apart (ap (λ (d : Capability). d.kind) e)) ∙ before c apart

-- after the three kinds
pub all_given : (es : List Edit) (held : Contents) (one two three : List Mention)
    → ((c : Capability) → IsCapability c → c.kind ≡ Flag → contents one c ≡ after es (name_of c) (held c))
    → ((c : Capability) → IsCapability c → c.kind ≡ Number → contents two c ≡ after es (name_of c) (held c))
    → ((c : Capability) → c.kind ≢ Number → contents two c ≡ contents one c)
    → ((c : Capability) → IsCapability c → c.kind ≡ Text → contents three c ≡ after es (name_of c) (held c))
    → ((c : Capability) → c.kind ≢ Text → contents three c ≡ contents two c)
    → (c : Capability) → IsCapability c → contents three c ≡ after es (name_of c) (held c)
all_given es held one two three flags numbers other_numbers texts other_texts c valid =
    elim c.kind as (λ k. c.kind ≡ k → contents three c ≡ after es (name_of c) (held c)) [
      | Flag ↦ λ e.
          other_texts c (λ (t : c.kind ≡ Text). absurd (let n : Flag ≡ Text = sym e ∙ t in cc))
          ∙ other_numbers c (λ (t : c.kind ≡ Number). absurd (let n : Flag ≡ Number = sym e ∙ t in cc)) ∙ flags c valid e
      | Number ↦ λ e. other_texts c (λ (t : c.kind ≡ Text). absurd (let n : Number ≡ Text = sym e ∙ t in cc)) ∙ numbers c valid e
      | Text ↦ λ e. texts c valid e
    ] refl

-- ---- what is written is read

some_bytes : (names : List ℕ) → names ≢ [] → 0 < length names
some_bytes [] present = absurd (present refl)
some_bytes (x ∷ xs) present = omega arith

pub reads_back : EntriesAreRead → EveryNameIsFound → (names : List ℕ) (v : View) (rows : List ReadRow) (es : List Edit) (new : Contents) (new_rows : List Row)
    (bytes : List ℕ) → names ≢ [] → HasNoNul names → All CanBeMade es → HoldsChanged (view_contents v) rows es new new_rows
    → ((c : Capability) → AgreesIfSome c (new c)) → bytes ≡ entry names new new_rows → length names ≤ names_max → length bytes ≤ entry_limit new new_rows
    → ReadsChanged names (view_contents v) rows es bytes
reads_back law found names v rows es new new_rows bytes present no_nul can holds agree is short small =
    let fits : length (entry names new new_rows) ≤ entry_limit new new_rows = subst (λ (bs : List ℕ). length bs ≤ entry_limit new new_rows) is small in
    let w = law names new new_rows (some_bytes names present) short no_nul (λ c valid. agree c) holds.in_order fits in
    subst (λ (bs : List ℕ). ReadsChanged names (view_contents v) rows es bs) (sym is) (record {
      read = w.0;
      reads = w.1;
      tables = λ c valid.
          w.2 c valid ∙ ap without_cancel (holds.tables c valid)
          ∙ not_cancelled c (after es (name_of c) (view_contents v c))
          (after_may_have es c (name_of c) (view_contents v c) can (found c valid) (view_holds v c));
      ends_well = w.3;
      user_defined = λ name named. ap (λ (rs : List ReadRow). said rs name) w.4 ∙ holds.user_defined name named;
    })
