use Rattle.std.proofs.Common.{◌≡◌, ℕ, ◌+◌, ◌-◌, ◌<◌, ◌≤◌, max, List, [], ◌∷◌, ◌++◌, None, All, length, take, arith, refl, sym, ap, subst, ◌∙◌}
use Rattle.std.proofs.lemmas.List.{take_more}
use Rattle.layout_geom.specs.declared.rect.Rect.{Rect}
use Rattle.xy_cut.specs.declared.band.Band.{Band}
use Rattle.xy_cut.specs.Bands.{start_of, end_of, width_of}
use Rattle.xy_cut.specs.Widest.{IsWidestAlong}
use Rattle.xy_cut.proofs.Lists.{one_first}
use Rattle.xy_cut.proofs.Bands.{BeginsBy, IsFarthest, rising_before, farther, narrow, widened, farthest_one, widest_one}
use Rattle.xy_cut.proofs.sweep.widest_in.Goals as goal
use Rattle.xy_cut.proofs.sweep.widest_in.Goals.{then-least-width, else-least-width}

pub loop-place-init : goal.loop-place-init
loop-place-init c =
    let line = c.args.line.now in
    let axis = c.args.axis in
    let first = c.index-line-0.result in
    let one : take 1 line ≡ first ∷ [] = one_first line first c.requires.some ∙ ap (λ (r : Rect). r ∷ []) (sym c.index-line-0.is) in
    record {
      farthest = subst (λ (xs : List Rect). IsFarthest axis xs c.end-end.result) (sym one)
          (subst (λ (n : ℕ). IsFarthest axis (first ∷ []) n) (sym c.end-end.ensures.value) (farthest_one axis first));
      widest = subst (λ (xs : List Rect). IsWidestAlong axis xs c.args.least None) (sym one) (widest_one axis c.args.least first c.requires.least);
    }

pub loop-place-preserved : goal.loop-place-preserved
loop-place-preserved c =
    let line = c.args.line.now in
    let axis = c.args.axis in
    let least = c.args.least in
    let place = c.loop-place.place in
    let end = c.loop-place.end in
    let next = c.index-line-place.result in
    let xs = take place line in
    let low : place < length line = omega (arith, c.loop-place-test.true) in
    let more : take (place + 1) line ≡ xs ++ next ∷ [] = take_more line place next low ∙ ap (λ (r : Rect). xs ++ r ∷ []) (sym c.index-line-place.is) in
    let rising : All (BeginsBy axis (start_of axis next)) xs = rising_before axis line place next low c.index-line-place.is c.requires.sorted in
    let far : IsFarthest axis xs end = c.loop-place.invariant.farthest in
    let ends : c.max-end.result ≡ max end (end_of axis next) = c.max-end.ensures ∙ ap (λ (n : ℕ). max end n) c.end.ensures.value in
    record {
      farthest = subst (λ (l : List Rect). IsFarthest axis l c.max-end.result) (sym more)
          (subst (λ (n : ℕ). IsFarthest axis (xs ++ next ∷ []) n) (sym ends) (farther axis least c.requires.least xs next end rising far));
      widest = subst (λ (l : List Rect). IsWidestAlong axis l least c.if-least-width.widest) (sym more)
          (elim c.if-least-width.branch [
            | then-least-width w ↦
                let band : Band = record { axis = axis; low = end; high = c.start.result } in
                let wide : least ≤ width_of band = omega (arith, w.if-least-width.true, c.width.ensures.value) in
                subst (IsWidestAlong axis (xs ++ next ∷ []) least) (sym w.widest-is)
                (widened axis least c.requires.least xs next end rising far c.loop-place.widest band w.wider.result refl refl c.start.ensures.value wide w.wider.ensures c.loop-place.invariant.widest)
            | else-least-width w ↦
                let close : start_of axis next - end < least = omega (arith, w.if-least-width.false, c.width.ensures.value, c.start.ensures.value) in
                subst (IsWidestAlong axis (xs ++ next ∷ []) least) (sym w.widest-is)
                (narrow axis least c.requires.least xs next end rising far c.loop-place.widest close c.loop-place.invariant.widest)
          ]);
    }
