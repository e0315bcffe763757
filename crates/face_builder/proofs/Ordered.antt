-- Points and half-edges are in a total order, so a sort gives the list in order.
use Rattle.std.proofs.Common.{◌≡◌, ℕ, List, Option, None, Some, refl, sym, ap}
use Rattle.std.specs.Cmp.{IsTotalOrder}
use Rattle.std.specs.Cmp.Lexicographic.{options_total}
use Rattle.std.specs.List.Sorted.{IsSorted, IsPermutation}
use Rattle.std.specs.Option.{option_cmp}
use Rattle.std.specs.Ordering.{ordering_then, nat_cmp}
use Rattle.std.specs.declared.cmp.Ordering.{Ordering}
use Rattle.std.specs.declared.cmp.Ordering.TheVariants.{Less, Equal, Greater}
use Rattle.std.proofs.lemmas.Cmp.{on_total, then_total, nat_cmp_total, ranked}
use Rattle.surd_number.specs.SignLaws.{compare_of_total}
use Rattle.plane_geometry.specs.declared.Point.{Point}
use Rattle.plane_geometry.specs.DirView.{dir_number}
use Rattle.plane_geometry.specs.DirLaws.{dir_is}
use Rattle.plane_geometry.specs.Position.{Position, position_of, compare_points}
use Rattle.plane_geometry.specs.OrderLaws.{tied_points}
use Rattle.face_builder.specs.declared.half_edges.HalfEdge.{HalfEdge}
use Rattle.face_builder.specs.HalfEdge.{compare_half_edges}
use Rattle.face_builder.specs.Sorted.{sorted_list}
use Rattle.face_builder.proofs.Sorting.{sorted_is}

then_equal : (a b : Ordering) → ordering_then a b ≡ Equal → (a ≡ Equal) × (b ≡ Equal)
then_equal Less b e = let h : Less ≡ Equal = e in cc
then_equal Equal b e = (refl, e)
then_equal Greater b e = let h : Greater ≡ Equal = e in cc

pub points_total : IsTotalOrder compare_points
points_total =
    on_total position_of
    (then_total (on_total (λ (p : Position). p.x) compare_of_total)
    (on_total (λ (p : Position). p.y) compare_of_total))

pub half_edges_total : IsTotalOrder compare_half_edges
half_edges_total =
    then_total (on_total (λ (h : HalfEdge). h.start) points_total)
    (then_total (on_total (λ (h : HalfEdge). dir_number h.dir) nat_cmp_total)
    (then_total (on_total (λ (h : HalfEdge). h.end) points_total)
    (on_total (λ (h : HalfEdge). h.piece) (options_total nat_cmp_total))))

pub tied_numbers : (m n : ℕ) → nat_cmp m n ≡ Equal → m ≡ n
tied_numbers m n e = ranked m n Equal (sym e)

tied_pieces : (m n : Option ℕ) → option_cmp nat_cmp m n ≡ Equal → m ≡ n
tied_pieces None None e = refl
tied_pieces None (Some n) e = let h : Less ≡ Equal = e in cc
tied_pieces (Some m) None e = let h : Greater ≡ Equal = e in cc
tied_pieces (Some m) (Some n) e = ap Some (tied_numbers m n e)

pub from_parts : (g h : HalfEdge) → g.start ≡ h.start → g.dir ≡ h.dir → g.end ≡ h.end → g.piece ≡ h.piece → g ≡ h
from_parts g h s d e p = λ i. record { start = s i; dir = d i; end = e i; piece = p i }

pub tied_half_edges : (g h : HalfEdge) → compare_half_edges g h ≡ Equal → g ≡ h
tied_half_edges g h e =
    let a = then_equal (compare_points g.start h.start)
    (ordering_then (nat_cmp (dir_number g.dir) (dir_number h.dir))
    (ordering_then (compare_points g.end h.end) (option_cmp nat_cmp g.piece h.piece))) e in
    let b = then_equal (nat_cmp (dir_number g.dir) (dir_number h.dir))
    (ordering_then (compare_points g.end h.end) (option_cmp nat_cmp g.piece h.piece)) a.1 in
    let c = then_equal (compare_points g.end h.end) (option_cmp nat_cmp g.piece h.piece) b.1 in
    from_parts g h (tied_points g.start h.start a.0)
    (dir_is g.dir h.dir (tied_numbers (dir_number g.dir) (dir_number h.dir) b.0))
    (tied_points g.end h.end c.0) (tied_pieces g.piece h.piece c.1)

pub sorted_points : (ps qs : List Point) → IsPermutation ps qs → IsSorted compare_points qs → qs
    ≡ sorted_list compare_points ps
sorted_points ps qs moved sorted = sorted_is compare_points points_total tied_points ps qs moved sorted

pub sorted_half_edges : (gs hs : List HalfEdge) → IsPermutation gs hs → IsSorted compare_half_edges hs → hs
    ≡ sorted_list compare_half_edges gs
sorted_half_edges gs hs moved sorted =
    sorted_is compare_half_edges half_edges_total tied_half_edges gs hs moved sorted
