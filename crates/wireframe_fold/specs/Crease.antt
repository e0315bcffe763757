-- Where creases come to lie.
use Rattle.std.specs.Prelude.{◌≡◌, List}
use Rattle.std.specs.List.{AllZip}
use Rattle.plane_geometry.specs.declared.Point.{Point}
use Rattle.plane_geometry.specs.declared.Segment.{Segment}
use Rattle.plane_geometry.specs.SegmentView.{lesser_end, greater_end}
use Rattle.plane_geometry.specs.Ends.{lesser_of, greater_of, HasEnds}
use Rattle.isometry_map.specs.declared.folded.CreaseImage.{CreaseImage}
use Rattle.isometry_map.specs.Motion.{Motion}
use Rattle.isometry_map.specs.Folded.{IsImage}
use Rattle.face_builder.specs.declared.shared.SharedPiece.{SharedPiece}
use Rattle.wireframe_fold.specs.Folding.{motion_at}

-- some point of two Surds is the image of p
abbrev pub HasImage : Motion → Point → Type 0
HasImage t p = (q : Point) × IsImage t p q

-- both ends have one
abbrev pub HasEndImages : Motion → Segment → Type 0
HasEndImages t crease = HasImage t (lesser_end crease) × HasImage t (greater_end crease)

-- those of a shared piece have one by the isometry of its first face
abbrev pub HasSharedEnds : List Motion → SharedPiece → Type 0
HasSharedEnds ts s = HasEndImages (motion_at ts s.a) s.segment

-- the segment between the images of the ends
pub record IsCreaseImage (t : Motion) (crease image : Segment) : Type 0 where
  pub from : Point
  pub to : Point
  pub from_is : IsImage t (lesser_end crease) from
  pub to_is : IsImage t (greater_end crease) to
  pub ends : HasEnds image (lesser_of from to) (greater_of from to)

-- where a shared piece comes to lie: by the isometries of both faces
pub record IsSharedImage (ts : List Motion) (s : SharedPiece) (c : CreaseImage) : Type 0 where
  pub piece : c.piece ≡ s.piece
  pub a : c.a ≡ s.a
  pub b : c.b ≡ s.b
  pub by_a : IsCreaseImage (motion_at ts s.a) s.segment c.image
  pub by_b : IsCreaseImage (motion_at ts s.b) s.segment c.image

-- those of all shared pieces, place by place
abbrev pub AreSharedImages : List Motion → List SharedPiece → List CreaseImage → Type 0
AreSharedImages ts shared creases = AllZip (IsSharedImage ts) shared creases
