-- What `meet` answers of the lines of two stretches is their common point.
use Rattle.std.proofs.Common.{◌≡◌, ◌≢◌, ◌↔◌, ℕ, ◌<◌, ◌%◌, false, Result, Ok, Err, IfOk, true, refl, sym, ap, subst, ◌∙◌}
use Rattle.std.specs.Result.{result_ok}
use Rattle.std.proofs.lemmas.Bool.{ne_eqb, eq-eqb, both_ways}
use Rattle.surd_number.specs.declared.Sgn.TheVariants.{Zero}
use Rattle.plane_geometry.specs.declared.Point.{Point}
use Rattle.plane_geometry.specs.declared.Line.{Line}
use Rattle.plane_geometry.specs.declared.meeting.MeetFault.{MeetFault}
use Rattle.plane_geometry.specs.declared.meeting.MeetFault.TheVariants.{Parallel, OutOfRange}
use Rattle.plane_geometry.specs.Position.{Position, position_of}
use Rattle.plane_geometry.specs.Direction.{side_of, is_zero}
use Rattle.plane_geometry.specs.Stretch.{Stretch, is_in_line}
use Rattle.plane_geometry.specs.StretchLaws.{zero_is}
use Rattle.plane_geometry.specs.LineView.{line_number, side_of_line, IsOnLine, IsPoint, HasNoCommonPoint}
use Rattle.plane_geometry.specs.Common.{is_parallel, common_of}
use Rattle.plane_geometry.specs.CommonLaws.{side_modulo, side_from_modulo, common_some, common_none, common_parallel}
use Rattle.plane_geometry.proofs.Meets.{is_point}

module _ (s u : Stretch) (l m : Line) (few_s : s.dir < 16) (few_u : u.dir < 16)
    (at_l : line_number l ≡ s.dir % 8) (at_m : line_number m ≡ u.dir % 8)
    (sides_l : (q : Position) → side_of_line l q ≡ side_of s.from (line_number l) q)
    (sides_m : (q : Position) → side_of_line m q ≡ side_of u.from (line_number m) q) where
  on_first : (q : Position) → IsOnLine q l → side_of s.from s.dir q ≡ Zero
  on_first q e = side_from_modulo s.from s.dir q few_s
      (subst (λ (n : ℕ). side_of s.from n q ≡ Zero) at_l (sym (sides_l q) ∙ e))

  on_second : (q : Position) → IsOnLine q m → side_of u.from u.dir q ≡ Zero
  on_second q e = side_from_modulo u.from u.dir q few_u
      (subst (λ (n : ℕ). side_of u.from n q ≡ Zero) at_m (sym (sides_m q) ∙ e))

  in_first : (q : Position) → side_of s.from s.dir q ≡ Zero → IsOnLine q l
  in_first q e = sides_l q
      ∙ subst (λ (n : ℕ). side_of s.from n q ≡ Zero) (sym at_l) (side_modulo s.from s.dir q few_s e)

  in_second : (q : Position) → side_of u.from u.dir q ≡ Zero → IsOnLine q m
  in_second q e = sides_m q
      ∙ subst (λ (n : ℕ). side_of u.from n q ≡ Zero) (sym at_m) (side_modulo u.from u.dir q few_u e)

  apart : line_number l ≢ line_number m → is_parallel s u ≡ false
  apart n = ne_eqb (s.dir % 8) (u.dir % 8) (λ e. n (at_l ∙ e ∙ sym at_m))

  pub common_in_line : (r : Result Point MeetFault)
      → IfOk r (λ p. IsOnLine (position_of p) l × IsOnLine (position_of p) m)
      → IfOk r (λ p. (is_in_line (position_of p) s ≡ true) × (is_in_line (position_of p) u ≡ true))
  common_in_line (Ok p) on =
      (ap is_zero (on_first (position_of p) on.0), ap is_zero (on_second (position_of p) on.1))
  common_in_line (Err e) on = tt

  pub common_out_of_range : (r : Result Point MeetFault)
      → ((r ≡ Err OutOfRange) ↔ ((line_number l ≢ line_number m) × HasNoCommonPoint l m))
      → (r ≡ Err OutOfRange) ↔ ((is_parallel s u ≡ false)
      × ((p : Position) → (is_in_line p s ≡ true) × (is_in_line p u ≡ true) → ¬ IsPoint p))
  common_out_of_range r range = (
    (λ e.
        let none = range.0 e in
        (apart none.0, λ p on. none.1 p (in_first p (zero_is _ on.0)) (in_second p (zero_is _ on.1)))),
    λ w. range.1 (
      (λ e. both_ways (is_parallel s u) w.0 (eq-eqb (s.dir % 8) (u.dir % 8) (sym at_l ∙ e ∙ at_m))),
      λ p on_l on_m. w.1 p (ap is_zero (on_first p on_l), ap is_zero (on_second p on_m)),
    ),
  )

  pub common_answer : (r : Result Point MeetFault) → ((r ≡ Err Parallel) ↔ (line_number l ≡ line_number m))
      → IfOk r (λ p. IsOnLine (position_of p) l × IsOnLine (position_of p) m)
      → ((r ≡ Err OutOfRange) ↔ ((line_number l ≢ line_number m) × HasNoCommonPoint l m))
      → result_ok r ≡ common_of s u
  common_answer (Ok p) parallel on range =
      let e : Ok p ≡ Err Parallel → ⊥ = λ h. absurd (cc) in
      sym (common_some s u few_s few_u (apart (λ h. e (parallel.1 h))) p
      (on_first (position_of p) on.0, on_second (position_of p) on.1))
  common_answer (Err Parallel) parallel on range =
      sym (common_parallel s u (eq-eqb (s.dir % 8) (u.dir % 8) (sym at_l ∙ parallel.0 refl ∙ at_m)))
  common_answer (Err OutOfRange) parallel on range =
      let none = range.0 refl in
      sym (common_none s u few_s few_u (apart none.0)
      (λ p on_both. none.1 (position_of p) (in_first (position_of p) on_both.0)
      (in_second (position_of p) on_both.1) (is_point p)))
