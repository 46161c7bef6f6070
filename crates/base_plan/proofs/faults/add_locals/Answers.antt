use mathlib.Core.Bool.{beq}
use Rattle.std.proofs.Common.{ℕ, Bool, true, false, not, ◌≡◌, List, [], ◌∷◌, ◌++◌, append_assoc, append-nil, filter, map, take, sym, ap, refl, ◌∙◌}
use Rattle.std.proofs.lemmas.List.{map-append, take_all}
use Rattle.std.proofs.lemmas.List.Elements.{filter-append}
use Rattle.ti_source.specs.Code.{is_of_header}
use Rattle.ti_source.specs.Reading.{ReadFault, fault_of}
use Rattle.base_slots.specs.Settled.{fault_at}
use Rattle.base_meaning.specs.Faults.{SourceFault, is_kept, local_fault, local_faults}
use Rattle.base_plan.proofs.ItemLists.{map-take_item}
use Rattle.base_plan.proofs.faults.add_locals.Goals as goal
use Rattle.base_plan.proofs.faults.add_locals.Goals.{then-is_of_header-of_header+in_ok-add_local, else-is_of_header-of_header}

-- the faults of one more are those before it and its own
parted : (of_header : Bool) (at : ℕ) (front : List ReadFault) (f : ReadFault) → local_faults of_header at (front ++ f ∷ [])
    ≡ local_faults of_header at front ++ local_faults of_header at (f ∷ [])
parted of_header at front f =
    ap (map (local_fault at)) (filter-append (is_kept of_header) front (f ∷ []))
    ∙ map-append (local_fault at) (filter (is_kept of_header) front) (filter (is_kept of_header) (f ∷ []))

one_more : (of_header : Bool) (at : ℕ) (front : List ReadFault) (f : ReadFault) (old before new : List SourceFault)
    → before ≡ old ++ local_faults of_header at front → new ≡ before ++ local_faults of_header at (f ∷ [])
    → new ≡ old ++ local_faults of_header at (front ++ f ∷ [])
one_more of_header at front f old before new b n = rw (n, b, append_assoc, ← parted of_header at front f) refl

beq-true : (b : Bool) → b ≡ beq b true
beq-true true = refl
beq-true false = refl

beq-false : (b : Bool) → not b ≡ beq b false
beq-false true = refl
beq-false false = refl

of_kind : (of_header : Bool) (f : ReadFault) → is_kept of_header f ≡ beq (is_of_header f.code) of_header
of_kind true f = beq-true (is_of_header f.code)
of_kind false f = beq-false (is_of_header f.code)

kept : (of_header : Bool) (at : ℕ) (f : ReadFault) → beq (is_of_header f.code) of_header ≡ true → local_faults of_header at (f ∷ []) ≡ local_fault at f ∷ []
kept of_header at f e = rw (of_kind of_header f, e) refl

left_out : (of_header : Bool) (at : ℕ) (f : ReadFault) → beq (is_of_header f.code) of_header ≡ false → local_faults of_header at (f ∷ []) ≡ []
left_out of_header at f e = rw (of_kind of_header f, e) refl

pub loop-local-preserved : goal.loop-local-preserved
loop-local-preserved g c =
    let locals = c.args.locals.now in
    let end = c.loop-local.local-index in
    let f = fault_of c.local-item.result in
    let old = map (fault_at g.at) c.args.faults.now.items in
    let before = map (fault_at g.at) c.loop-local.faults.items in
    let front = map fault_of (take end locals) in
    rw (map-take_item fault_of locals end c.local-item.result c.loop-local-test.true c.local-item.is)
    (elim c.if-is_of_header-of_header.branch [
      | then-is_of_header-of_header+in_ok-add_local w ↦
          let one = kept c.args.of_header g.at f (rw c.is_of_header.ensures at w.if-is_of_header-of_header.true) in
          one_more c.args.of_header g.at front f old before _ c.loop-local.invariant (rw (w.faults-is, one) w.in_ok-add_local.ensures)
      | else-is_of_header-of_header w ↦
          let none = left_out c.args.of_header g.at f (rw c.is_of_header.ensures at w.if-is_of_header-of_header.false) in
          one_more c.args.of_header g.at front f old before _ c.loop-local.invariant (rw (w.faults-is, none) (sym (append-nil before)))
    ])

pub returns : goal.returns
returns g c = rw (← take_all c.loop-local.local-index c.args.locals.now c.loop-local-test.false) c.loop-local.invariant
