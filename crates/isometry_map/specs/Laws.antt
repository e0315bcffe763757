-- What the numbers of linear parts stand for, and what isometries keep.
use Rattle.std.specs.Prelude.{◌≡◌, ◌↔◌, ℕ, ◌<◌, pos, negsuc, List, IsTrue, if◌then◌else◌}
use Rattle.surd_number.specs.Number.{IsSame, whole}
use Rattle.plane_geometry.specs.declared.Point.{Point}
use Rattle.plane_geometry.specs.Position.{Position}
use Rattle.plane_geometry.specs.Multiple.{IsSameVector}
use Rattle.plane_geometry.specs.Polygon.{have_directions, is_convex, is_in_polygon}
use Rattle.plane_geometry.specs.Direction.{side_of, is_along}
use Rattle.isometry_map.specs.declared.isometries.Isometry.{Isometry}
use Rattle.isometry_map.specs.Linear.{reflection, is_reflection, composed, direction_image, side_image}
use Rattle.isometry_map.specs.Matrix.{matrix_of, matrix_product, determinant, IsSameMatrix, IsMirrorOf}
use Rattle.isometry_map.specs.Motion.{Motion, image_by, side_of_images, IsSameMap}
use Rattle.isometry_map.specs.IsometryView.{motion_of}
use Rattle.isometry_map.specs.Folded.{AreImages, counterclockwise}

-- the matrix of a composition is the product of the matrices
abbrev pub CompositionIsProduct : Type 0
CompositionIsProduct =
    (i j : ℕ)
    → i < 16 → j < 16
    → IsSameMatrix (matrix_of (composed i j)) (matrix_product (matrix_of i) (matrix_of j))

-- different numbers have different matrices
abbrev pub PartsDiffer : Type 0
PartsDiffer = (i j : ℕ) → i < 16 → j < 16 → IsSameMatrix (matrix_of i) (matrix_of j) → i ≡ j

-- a reflection keeps the direction of its line, and the direction at a right angle becomes its opposite
abbrev pub ReflectionsKeepTheirLines : Type 0
ReflectionsKeepTheirLines = (n : ℕ) → n < 16 → IsMirrorOf n (matrix_of (reflection n))

-- orientation is reversed where the determinant is -1, and else it is 1
abbrev pub TurnedReverse : Type 0
TurnedReverse =
    (n : ℕ)
    → n < 16
    → IsSame (determinant (matrix_of n)) (if is_reflection n then whole (negsuc 0) else whole (pos 1))

-- where it goes in direction n from p to q, it goes in the image of n from the image of p to that of q
abbrev pub DirectionsGoToDirections : Type 0
DirectionsGoToDirections =
    (t : Motion) (n : ℕ) (p q : Position)
    → t.linear < 16 → n < 16
    → is_along (direction_image t.linear n) (image_by t p) (image_by t q) ≡ is_along n p q

-- sides of the line through q in direction n are kept, or are all turned where orientation is reversed
abbrev pub SidesAreKept : Type 0
SidesAreKept =
    (t : Motion) (n : ℕ) (q p : Position)
    → t.linear < 16 → n < 16
    → side_of_images t n q p ≡ side_image t.linear (side_of q n p)

-- isometries are equal exactly where each point has one image by both
abbrev pub IsometriesAreTheirMaps : Type 0
IsometriesAreTheirMaps = (s t : Isometry) → (s ≡ t) ↔ IsSameMap (motion_of s) (motion_of t)

-- the images of the corners of a convex polygon are those of one, backwards where orientation is reversed
abbrev pub ConvexImages : Type 0
ConvexImages =
    (t : Motion) → t.linear < 16 → (ps qs : List Point)
    → AreImages t ps qs → IsTrue (is_convex ps)
    → IsTrue (is_convex (counterclockwise (is_reflection t.linear) qs))

-- a point is strictly left of all sides of a polygon exactly where its image is of those of the image, whose corners run
-- backwards where orientation is reversed
abbrev pub InsidesAreImages : Type 0
InsidesAreImages =
    (t : Motion) → t.linear < 16 → (ps qs : List Point)
    → AreImages t ps qs → IsTrue (have_directions ps) → (p q : Position)
    → IsSameVector q (image_by t p)
    → is_in_polygon (counterclockwise (is_reflection t.linear) qs) q ≡ is_in_polygon ps p

-- each point is the image of one
abbrev pub EachIsAnImage : Type 0
EachIsAnImage = (t : Motion) (q : Position) → t.linear < 16 → (p : Position) × IsSameVector q (image_by t p)
