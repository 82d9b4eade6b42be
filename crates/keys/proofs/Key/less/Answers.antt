-- The first fields that differ decide, as the derived order has it: so do the digits of the numbers, `less_is`.
use Rattle.std.proofs.Common.{◌≡◌, ◌∙◌, ◌&&◌, ◌||◌, Bool, true, false, cond, List, [], ◌∷◌, ℕ, refl, ap, arith, eqb, ltb}
use Rattle.std.proofs.Common.{Option, Some, Ordering, Less, Equal, Greater}
use Rattle.std.specs.Ordering.{is_lt, is_some_and, nat_cmp, partial_ordering_then}
use Rattle.laws.specs.Digits.{Digit, less}
use Rattle.keys.specs.KeyLaws.{SizedKey, digits, less_is}
use Rattle.keys.proofs.Key.less.Goals as goal

-- the fields in turn
abbrev lexical : List Digit → Bool
lexical [] = false
lexical (d ∷ ds) = ltb d.mine d.yours || (eqb d.mine d.yours && lexical ds)

tested : (l e : Bool) (r : Option Ordering)
    → is_some_and is_lt (partial_ordering_then (Some (cond l Less (cond e Equal Greater))) r)
    ≡ (l || (e && is_some_and is_lt r))
tested true e r = refl
tested false true r = refl
tested false false r = refl

more : {t : Bool} (x y : ℕ) (r : Option Ordering) → is_some_and is_lt r ≡ t
    → is_some_and is_lt (partial_ordering_then (Some (nat_cmp x y)) r) ≡ (ltb x y || (eqb x y && t))
more x y r h = tested (ltb x y) (eqb x y) r ∙ ap (λ (b : Bool). ltb x y || (eqb x y && b)) h

alone : (l e : Bool) → is_lt (cond l Less (cond e Equal Greater)) ≡ (l || (e && false))
alone true e = refl
alone false true = refl
alone false false = refl

last : (l e : Bool) → (l || (e && false)) ≡ l
last true e = refl
last false true = refl
last false false = refl

spread : (l e x y t : Bool) → (l || (e && (x || (y && t)))) ≡ ((l || (e && x)) || ((e && y) && t))
spread true e x y t = refl
spread false false x y t = refl
spread false true x y t = refl

told : (ds : List Digit) (l e : Bool) → (l || (e && lexical ds)) ≡ less l e ds
told [] l e = last l e
told (d ∷ ds) l e =
    let x = ltb d.mine d.yours in
    let y = eqb d.mine d.yours in
    spread l e x y (lexical ds) ∙ told ds (l || (e && x)) (e && y)

pub returns : goal.returns
returns c =
    let a = c.args.self in
    let b = c.args.other in
    let p : SizedKey a = omega arith in
    let q : SizedKey b = omega arith in
    c.lt.ensures
    ∙ more a.kind b.kind _ (more a.form b.form _ (more a.status b.status _ (more a.flags b.flags _
    (more a.party b.party _ (more a.id b.id _ (more a.symbol.0 b.symbol.0 _ (more a.n1 b.n1 _
    (alone (ltb a.m2 b.m2) (eqb a.m2 b.m2)))))))))
    ∙ told (digits a b) (ltb a.kind b.kind) (eqb a.kind b.kind)
    ∙ less_is a b p q
