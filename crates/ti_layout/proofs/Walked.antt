-- A walk over the entries of a table, which are in the order of the compiled entry: how many places
-- of a kind it has passed.
use Rattle.std.proofs.Common.{◌≡◌, ℕ, zero, suc, ◌+◌, ◌-◌, ◌*◌, ◌<◌, ◌≤◌, Bool, true, false, cond, List, [], ◌∷◌, ◌++◌, length, get_or, replicate, Option}
use Rattle.std.proofs.Common.{Some, None, refl, sym, ap, ◌∙◌, subst, append_assoc, arith, inl, inr}
use Rattle.std.proofs.lemmas.Bool.{cases_lt, cases_Bool}
use Rattle.std.proofs.lemmas.List.{get_or_default, get_or-map, length-append}
use Rattle.std.proofs.lemmas.Option.{same_Some, none-some}
use Rattle.ti_caps.specs.Tables.{Capability, IsCapability, capability, count_of, same_capability, rank_in}
use Rattle.ti_caps.proofs.Same.{same_capability-true}
use Rattle.ti_caps.specs.declared.capability.Kind.{Kind}
use Rattle.ti_caps.specs.declared.capability.Kind.TheVariants.{Flag, Number, Text}
use Rattle.ti_layout.specs.declared.layout.Format.{Format}
use Rattle.ti_layout.specs.declared.layout.Format.TheVariants.{Legacy}
use Rattle.ti_layout.specs.declared.values.Value.{Value}
use Rattle.ti_layout.specs.inside.Values.{IsAt}
use Rattle.ti_layout.specs.Values.{Content, content_true, content_number, content_text, content_cancelled, Mention, Agrees, IsSorted, contents, content_of}
use Rattle.ti_layout.specs.Values.{entries_of}
use Rattle.ti_layout.specs.Layout.{absent_mark, number_bytes, number_section, width}
use Rattle.ti_layout.specs.Image.{is_there, of_kind, written_count, flag_value, number_value, offset_value, text_piece, flags_below, numbers_below}
use Rattle.ti_layout.specs.Image.{offsets_below, texts_below, below}
use Rattle.ti_layout.proofs.SortedEntries.{contents_here}
use Rattle.ti_layout.proofs.Searched.{elsewhere, rank_read}
use Rattle.ti_layout.proofs.Below.{below-more, below-filled, last_passing-is, last_passing-over}
use Rattle.ti_layout.proofs.Spelled.{spelled-append, spelled-one, spelled-absent}
use Rattle.ti_layout.proofs.Texts.{texts-more, texts-skipped, length-texts-le}

-- whether a content is a value of that kind, and not cancelled
abbrev pub is_of : Kind → Content → Bool
is_of Flag content_true = true
is_of Flag (content_number n) = false
is_of Flag (content_text t) = false
is_of Flag content_cancelled = false
is_of Number content_true = false
is_of Number (content_number n) = true
is_of Number (content_text t) = false
is_of Number content_cancelled = false
is_of Text content_true = false
is_of Text (content_number n) = false
is_of Text (content_text t) = true
is_of Text content_cancelled = false

-- a value is of the kind of its capability
kind_told : (c : Capability) (v : Content) (kind : Kind) → Agrees c v → is_of kind v ≡ true → c.kind ≡ kind
kind_told c content_true Flag a e = a
kind_told c (content_number n) Flag a e = absurd cc
kind_told c (content_text t) Flag a e = absurd cc
kind_told c content_cancelled Flag a e = absurd cc
kind_told c content_true Number a e = absurd cc
kind_told c (content_number n) Number a e = a.0
kind_told c (content_text t) Number a e = absurd cc
kind_told c content_cancelled Number a e = absurd cc
kind_told c content_true Text a e = absurd cc
kind_told c (content_number n) Text a e = absurd cc
kind_told c (content_text t) Text a e = a.0
kind_told c content_cancelled Text a e = absurd cc

of_there : (c : Capability) (v : Content) (kind : Kind) → Agrees c v → c.kind ≡ kind → is_there (Some v) ≡ true → is_of kind v ≡ true
of_there c content_true Flag a k e = refl
of_there c content_true Number a k e = absurd (let p : Flag ≡ Number = sym a ∙ k in cc)
of_there c content_true Text a k e = absurd (let p : Flag ≡ Text = sym a ∙ k in cc)
of_there c (content_number n) Flag a k e = absurd (let p : Number ≡ Flag = sym a.0 ∙ k in cc)
of_there c (content_number n) Number a k e = refl
of_there c (content_number n) Text a k e = absurd (let p : Number ≡ Text = sym a.0 ∙ k in cc)
of_there c (content_text t) Flag a k e = absurd (let p : Text ≡ Flag = sym a.0 ∙ k in cc)
of_there c (content_text t) Number a k e = absurd (let p : Text ≡ Number = sym a.0 ∙ k in cc)
of_there c (content_text t) Text a k e = refl
of_there c content_cancelled kind a k e = absurd cc

there_of : (v : Content) (kind : Kind) → is_of kind v ≡ true → is_there (Some v) ≡ true
there_of content_true kind e = refl
there_of (content_number n) kind e = refl
there_of (content_text t) kind e = refl
there_of content_cancelled Flag e = absurd cc
there_of content_cancelled Number e = absurd cc
there_of content_cancelled Text e = absurd cc

-- what the entries say of a capability is in one of them
pub record Stands (es : List Mention) (c : Capability) (v : Content) : Type 0 where
  pub at : ℕ
  pub within : at < length es
  pub is_cap : (e : Mention) → (get_or es at e).0 ≡ c
  pub is_content : (e : Mention) → (get_or es at e).1 ≡ v

pub stands : (es : List Mention) (c : Capability) (v : Content) → contents es c ≡ Some v → Stands es c v
unfolding contents
stands [] c v e = absurd (none-some v e)
stands (x ∷ es) c v e =
    elim (same_capability x.0 c) as (λ b. same_capability x.0 c ≡ b → cond b (Some x.1) (contents es c) ≡ Some v → Stands (x ∷ es) c v) [
      | true ↦ λ same here. record { at = 0; within = omega arith; is_cap = λ d. same_capability-true x.0 c same; is_content = λ d. same_Some x.1 v here }
      | false ↦ λ other there.
          let s = stands es c v there in
          record { at = suc s.at; within = omega (arith, s.within); is_cap = s.is_cap; is_content = s.is_content }
    ] refl e

-- the walk has passed k entries, and as many places of a kind as its last value there asks for
pub record Walked (es : List Mention) (kind : Kind) (k places : ℕ) : Type 0 where
  pub covered : (j : ℕ) (e : Mention) → j < k → j < length es → is_of kind (get_or es j e).1 ≡ true → (get_or es j e).0.index < places
  pub ahead : (j : ℕ) (e : Mention) → k ≤ j → j < length es → is_of kind (get_or es j e).1 ≡ true → places ≤ (get_or es j e).0.index
  pub last : (i : ℕ) → suc i ≡ places → is_there (of_kind (contents es) kind i) ≡ true
  pub within : places ≤ count_of kind

pub walked-start : (es : List Mention) (kind : Kind) → Walked es kind 0 0
walked-start es kind = record {
  covered = λ j e lt in_range is. omega (arith, lt);
  ahead = λ j e le in_range is. omega arith;
  last = λ i e. absurd (omega (arith, e));
  within = omega arith;
}

module _ (es : List Mention) (sorted : IsSorted es) where
  pub contents_read : (j : ℕ) (e : Mention) → j < length es → contents es (get_or es j e).0 ≡ Some (get_or es j e).1
  contents_read j e lt =
      let at : IsAt es (get_or es j e).0 j = record { in_range = lt; is_here = λ d. ap (λ (x : Mention). x.0) (get_or_default es j d e lt) } in
      contents_here es (get_or es j e).0 j e lt refl (elsewhere es sorted (get_or es j e).0 j at)

  pub kind_at : (j : ℕ) (e : Mention) (kind : Kind) → j < length es → is_of kind (get_or es j e).1 ≡ true → (get_or es j e).0.kind ≡ kind
  kind_at j e kind lt is = kind_told (get_or es j e).0 (get_or es j e).1 kind (sorted.agree j e lt).1 is

  -- of two values of a kind, the later has the greater index
  index_rises : (i j : ℕ) (d e : Mention) (kind : Kind) → i < j → j < length es → is_of kind (get_or es i d).1 ≡ true → is_of kind (get_or es j e).1 ≡ true
      → (get_or es i d).0.index < (get_or es j e).0.index
  index_rises i j d e kind lt in_range a b =
      let rank_i = rank_read es i d (omega arith) in
      let rank_j = rank_read es j e in_range in
      let rise = sorted.rises i j lt in_range in
      let k_i : rank_in (get_or es i d).0.kind ≡ rank_in kind = ap rank_in (kind_at i d kind (omega arith) a) in
      let k_j : rank_in (get_or es j e).0.kind ≡ rank_in kind = ap rank_in (kind_at j e kind in_range b) in
      omega arith

  -- a place that the walk has passed without a value, or that is before the values to come
  module _ (kind : Kind) (k places i : ℕ) (walked : Walked es kind k places) (low : places ≤ i)
      (before : (j : ℕ) (e : Mention) → k ≤ j → j < length es → is_of kind (get_or es j e).1 ≡ true → i < (get_or es j e).0.index) where
    never_there : (o : Option Content) → contents es (capability kind i) ≡ o → is_there o ≡ true → ⊥
    never_there None said there = cc
    never_there (Some v) said there =
        let s = stands es (capability kind i) v said in
        let e : Mention = (capability kind i, v) in
        let cap : (get_or es s.at e).0 ≡ capability kind i = s.is_cap e in
        let agrees : Agrees (get_or es s.at e).0 v = subst (Agrees (get_or es s.at e).0) (s.is_content e) (sorted.agree s.at e s.within).1 in
        let is : is_of kind (get_or es s.at e).1 ≡ true =
        ap (is_of kind) (s.is_content e) ∙ of_there (get_or es s.at e).0 v kind agrees (ap (λ (c : Capability). c.kind) cap) there in
        let place : (get_or es s.at e).0.index ≡ i = ap (λ (c : Capability). c.index) cap in
        elim (cases_lt s.at k) [
          | inl past ↦ let under = walked.covered s.at e past s.within is in omega arith
          | inr later ↦ let over = before s.at e later s.within is in omega arith
        ]

    void_place : is_there (of_kind (contents es) kind i) ≡ false
    void_place = elim (cases_Bool (is_there (of_kind (contents es) kind i))) [
      | inl there ↦ absurd (never_there (contents es (capability kind i)) refl there)
      | inr not_there ↦ not_there
    ]

  -- at the end of the walk the places are counted
  pub walked-end : (kind : Kind) (k places : ℕ) → length es ≤ k → Walked es kind k places → written_count (contents es) kind ≡ places
  walked-end kind k places all walked =
      last_passing-is (λ i. is_there (of_kind (contents es) kind i)) (count_of kind) places walked.within walked.last
      (λ i low lt. void_place kind k places i walked low (λ j e le in_range is. omega arith))

  -- no more places than are written
  pub walked-written : (kind : Kind) (k places : ℕ) → Walked es kind k places → places ≤ written_count (contents es) kind
  walked-written kind k zero walked = omega arith
  walked-written kind k (suc i) walked =
      let passes = walked.last i refl in
      let fits = walked.within in
      let over = last_passing-over (λ i. is_there (of_kind (contents es) kind i)) (count_of kind) i (omega arith) passes in
      omega arith

  -- one more entry: a value of the kind, or not
  module _ (kind : Kind) (k places : ℕ) (walked : Walked es kind k places) (in_range : k < length es) (e : Mention) (here : get_or es k e ≡ e) where
    read_here : (d : Mention) → get_or es k d ≡ e
    read_here d = get_or_default es k d e in_range ∙ here

    pub walked-past : is_of kind e.1 ≡ false → Walked es kind (k + 1) places
    walked-past other = record {
      covered = λ j d lt within is. elim (cases_lt j k) [
        | inl under ↦ walked.covered j d under within is
        | inr at ↦
            let same : j ≡ k = omega arith in
            let is_here : is_of kind e.1 ≡ true = sym (ap (λ (x : Mention). is_of kind x.1) (ap (λ (i : ℕ). get_or es i d) same ∙ read_here d)) ∙ is in
            absurd (let never : true ≡ false = sym is_here ∙ other in cc)
      ];
      ahead = λ j d le within is. walked.ahead j d (omega arith) within is;
      last = walked.last;
      within = walked.within;
    }

    module _ (is : is_of kind e.1 ≡ true) where
      is_at : is_of kind (get_or es k e).1 ≡ true
      is_at = ap (λ (x : Mention). is_of kind x.1) here ∙ is

      kind_here : e.0.kind ≡ kind
      kind_here = sym (ap (λ (x : Mention). x.0.kind) here) ∙ kind_at k e kind in_range is_at

      index_here : (get_or es k e).0.index ≡ e.0.index
      index_here = ap (λ (x : Mention). x.0.index) here

      pub places_behind : places ≤ e.0.index
      places_behind = let a = walked.ahead k e (omega arith) in_range is_at in let i = index_here in omega arith

      pub index_fits : e.0.index < count_of kind
      index_fits =
          let valid : IsCapability e.0 = subst (λ (x : Mention). IsCapability x.0) here (sorted.agree k e in_range).0 in
          subst (λ (x : Kind). e.0.index < count_of x) kind_here valid

      pub said_here : of_kind (contents es) kind e.0.index ≡ Some e.1
      said_here =
          ap (λ (x : Kind). contents es (capability x e.0.index)) (sym kind_here) ∙ ap (contents es) (ap (λ (x : Mention). x.0) (sym here))
          ∙ contents_read k e in_range
          ∙ ap (λ (x : Mention). Some x.1) here

      pub walked-there : Walked es kind (k + 1) (e.0.index + 1)
      walked-there =
          let behind = places_behind in
          let i = index_here in
          let fits = index_fits in
          record {
            covered = λ j d lt within is_j. elim (cases_lt j k) [
              | inl under ↦ let c = walked.covered j d under within is_j in omega arith
              | inr at ↦
                  let same : j ≡ k = omega arith in
                  let place : (get_or es j d).0.index ≡ e.0.index = ap (λ (x : Mention). x.0.index) (ap (λ (n : ℕ). get_or es n d) same ∙ read_here d) in
                  omega arith
            ];
            ahead = λ j d le within is_j. let r = index_rises k j e d kind (omega arith) within is_at is_j in omega arith;
            last = λ n one. let same : n ≡ e.0.index = omega arith in ap (λ (x : ℕ). is_there (of_kind (contents es) kind x)) same ∙ ap is_there said_here
                ∙ there_of e.1 kind is;
            within = omega arith;
          }

      pub void_between : (i : ℕ) → places ≤ i → i < e.0.index → is_there (of_kind (contents es) kind i) ≡ false
      void_between i low high =
          let at = index_here in
          void_place kind k places i walked low (λ j d le within is_j. elim (cases_lt k j) [
            | inl over ↦ let r = index_rises k j e d kind over within is_at is_j in omega arith
            | inr at_k ↦
                let same : j ≡ k = omega arith in
                let place : (get_or es j d).0.index ≡ e.0.index = ap (λ (x : Mention). x.0.index) (ap (λ (n : ℕ). get_or es n d) same ∙ read_here d) in
                omega arith
          ])

-- ---- what is absent, as it is written

void_flag : (o : Option Content) → is_there o ≡ false → flag_value o ≡ 0
void_flag (Some content_true) e = absurd cc
void_flag _ e = refl

void_number : (void : ℕ) (o : Option Content) → is_there o ≡ false → number_value void o ≡ void
void_number void (Some (content_number n)) e = absurd cc
void_number void _ e = refl

void_offset : (at : ℕ) (o : Option Content) → is_there o ≡ false → offset_value at o ≡ 65535
void_offset at (Some (content_text t)) e = absurd cc
void_offset at _ e = refl

void_text : (o : Option Content) → is_there o ≡ false → text_piece o ≡ []
void_text (Some (content_text t)) e = absurd cc
void_text _ e = refl

-- ---- the sections, one value further

-- values place by place: those between are absent
next_value : (f : ℕ → ℕ) (void places index n : ℕ) → places ≤ index → ((i : ℕ) → places ≤ i → i < index → f i ≡ void) → f index ≡ n
    → below f (index + 1) ≡ (below f places ++ replicate (index - places) void) ++ n ∷ []
next_value f void places index n le between here =
    let sum : places + (index - places) ≡ index = omega arith in
    below-more f index ∙ ap (λ x. below f index ++ x ∷ []) here
    ∙ ap (λ xs. xs ++ n ∷ []) (ap (below f) (sym sum) ∙ below-filled f void places (index - places) (λ j low high. between j low (omega arith)))

-- numbers as they are spelled, place by place: those between are absent
next_spelled : (w : Format) (f : ℕ → ℕ) (places index n : ℕ) → below f (index + 1) ≡ (below f places ++ replicate (index - places) (absent_mark w)) ++ n ∷ []
    → number_section w (below f (index + 1)) ≡ (number_section w (below f places) ++ replicate (width w * (index - places)) 255) ++ number_bytes w n
next_spelled w f places index n e =
    ap (number_section w) e ∙ spelled-append w (below f places ++ replicate (index - places) (absent_mark w)) (n ∷ [])
    ∙ ap (λ xs. xs ++ number_section w (n ∷ [])) (spelled-append w (below f places) (replicate (index - places) (absent_mark w))
    ∙ ap (λ xs. number_section w (below f places) ++ xs) (spelled-absent w (index - places)))
    ∙ ap (λ xs. (number_section w (below f places) ++ replicate (width w * (index - places)) 255) ++ xs) (spelled-one w n)

module _ (es : List Mention) (sorted : IsSorted es) (k places : ℕ) (in_range : k < length es) (e : Mention) (here : get_or es k e ≡ e) where
  pub next_flag : Walked es Flag k places → e.1 ≡ content_true → flags_below (contents es) (e.0.index + 1)
      ≡ (flags_below (contents es) places ++ replicate (e.0.index - places) 0) ++ 1 ∷ []
  next_flag walked v =
      let is : is_of Flag e.1 ≡ true = ap (is_of Flag) v in
      next_value (λ i. flag_value (of_kind (contents es) Flag i)) 0 places e.0.index 1 (places_behind es sorted Flag k places walked in_range e here is)
      (λ i low high. void_flag _ (void_between es sorted Flag k places walked in_range e here is i low high))
      (ap flag_value (said_here es sorted Flag k places walked in_range e here is ∙ ap (λ x. Some x) v))

  pub next_number : (w : Format) (n : ℕ) → Walked es Number k places → e.1 ≡ content_number n
      → number_section w (numbers_below w (contents es) (e.0.index + 1))
      ≡ (number_section w (numbers_below w (contents es) places) ++ replicate (width w * (e.0.index - places)) 255) ++ number_bytes w n
  next_number w n walked v =
      let is : is_of Number e.1 ≡ true = ap (is_of Number) v in
      let f : ℕ → ℕ = λ i. number_value (absent_mark w) (of_kind (contents es) Number i) in
      next_spelled w f places e.0.index n
      (next_value f (absent_mark w) places e.0.index n (places_behind es sorted Number k places walked in_range e here is)
      (λ i low high. void_number (absent_mark w) _ (void_between es sorted Number k places walked in_range e here is i low high))
      (ap (number_value (absent_mark w)) (said_here es sorted Number k places walked in_range e here is ∙ ap (λ x. Some x) v)))

  module _ (t : List ℕ) (walked : Walked es Text k places) (v : e.1 ≡ content_text t) where
    is_text : is_of Text e.1 ≡ true
    is_text = ap (is_of Text) v

    said_text : of_kind (contents es) Text e.0.index ≡ Some (content_text t)
    said_text = said_here es sorted Text k places walked in_range e here is_text ∙ ap (λ x. Some x) v

    -- the texts before this one are those that the walk has passed
    texts_before : texts_below (contents es) e.0.index ≡ texts_below (contents es) places
    texts_before =
        let behind = places_behind es sorted Text k places walked in_range e here is_text in
        let sum : places + (e.0.index - places) ≡ e.0.index = omega arith in
        ap (texts_below (contents es)) (sym sum)
        ∙ texts-skipped (contents es) places (e.0.index - places)
        (λ j low high. void_text _ (void_between es sorted Text k places walked in_range e here is_text j low (omega arith)))

    pub next_text : texts_below (contents es) (e.0.index + 1) ≡ texts_below (contents es) places ++ (t ++ 0 ∷ [])
    next_text = texts-more (contents es) e.0.index ∙ ap (λ x. texts_below (contents es) e.0.index ++ text_piece x) said_text
        ∙ ap (λ x. x ++ (t ++ 0 ∷ [])) texts_before

    pub next_offset : number_section Legacy (offsets_below (contents es) (e.0.index + 1))
        ≡ (number_section Legacy (offsets_below (contents es) places) ++ replicate (2 * (e.0.index - places)) 255)
        ++ number_bytes Legacy (length (texts_below (contents es) places))
    next_offset =
        let f : ℕ → ℕ = λ i. offset_value (length (texts_below (contents es) i)) (of_kind (contents es) Text i) in
        next_spelled Legacy f places e.0.index (length (texts_below (contents es) places))
        (next_value f 65535 places e.0.index (length (texts_below (contents es) places)) (places_behind es sorted Text k places walked in_range e here is_text)
        (λ i low high. void_offset _ _ (void_between es sorted Text k places walked in_range e here is_text i low high))
        (ap (offset_value (length (texts_below (contents es) e.0.index))) said_text ∙ ap (λ (x : List ℕ). length x) texts_before))

    -- the string table holds what the walk has passed, and this text
    pub text_fits : length (texts_below (contents es) places) + (length t + 1) ≤ length (texts_below (contents es) (written_count (contents es) Text))
    text_fits =
        let more : length (texts_below (contents es) (e.0.index + 1)) ≡ length (texts_below (contents es) places) + length (t ++ 0 ∷ []) =
        ap length next_text ∙ length-append (texts_below (contents es) places) (t ++ 0 ∷ []) in
        let nul : length (t ++ 0 ∷ []) ≡ length t + 1 = length-append t (0 ∷ []) in
        let next = walked-there es sorted Text k places walked in_range e here is_text in
        let le =
        length-texts-le (contents es) (written_count (contents es) Text) (e.0.index + 1) (walked-written es sorted Text (k + 1) (e.0.index + 1) next) in
        omega arith

-- ---- an item of the slice that is walked over

pub item_read : (xs : List (Capability × Value)) (k : ℕ) (x : Capability × Value) → k < length xs → x ≡ get_or xs k x
    → get_or (entries_of xs) k (x.0, content_of x.1) ≡ (x.0, content_of x.1)
item_read xs k x lt e =
    let f : Capability × Value → Mention = λ y. (y.0, content_of y.1) in
    get_or-map f xs k x (f x) lt ∙ ap f (sym e)

-- two more parts after what was there
pub grown : (start done v0 v1 v2 fill piece next : List ℕ) → v0 ≡ start ++ done → v1 ≡ v0 ++ fill → v2 ≡ v1 ++ piece → next ≡ (done ++ fill) ++ piece
    → v2 ≡ start ++ next
grown start done v0 v1 v2 fill piece next a b c e =
    c ∙ ap (λ x. x ++ piece) (b ∙ ap (λ x. x ++ fill) a ∙ append_assoc start done fill) ∙ append_assoc start (done ++ fill) piece ∙ ap (λ x. start ++ x) (sym e)
