-- Each exported call's promise fixes its number and the final content of everything lent: any two that it allows for the same arguments are equal. Assumes nothing.
use Prim.Native.Nat.{ℕ}
use mathlib.Core.Path.{sym, ap, ◌∙◌}
use mathlib.Core.List.{List}
use lib.Ieee.{Float}
use Rattle.lent.specs.Fixed.{Fixes, FixesAll}
use Rattle.lent.proofs.Fixed.{fixed}
use Rattle.pigeonmast.specs.Report.{Build, Walk, Sky, Test, Normals, Watts, Accept, StlRead, StlWritten}
use Rattle.pigeonmast.proofs.pigeonmast_abi.Reads as abi
use Rattle.pigeonmast.proofs.pigeonmast_root.Reads as root
use Rattle.pigeonmast.proofs.pigeonmast_new.Reads as new
use Rattle.pigeonmast.proofs.pigeonmast_slab.Reads as slab
use Rattle.pigeonmast.proofs.pigeonmast_triangle.Reads as triangle
use Rattle.pigeonmast.proofs.pigeonmast_normals.Reads as normals
use Rattle.pigeonmast.proofs.pigeonmast_build.Reads as build
use Rattle.pigeonmast.proofs.pigeonmast_walk.Reads as walk
use Rattle.pigeonmast.proofs.pigeonmast_sky.Reads as sky
use Rattle.pigeonmast.proofs.pigeonmast_watts.Reads as watts
use Rattle.pigeonmast.proofs.pigeonmast_share.Reads as share
use Rattle.pigeonmast.proofs.pigeonmast_accept.Reads as accept
use Rattle.pigeonmast.proofs.pigeonmast_read_stl.Reads as read_stl
use Rattle.pigeonmast.proofs.pigeonmast_write_stl.Reads as write_stl

pub abi_fixed : Fixes abi.Post
abi_fixed = fixed

pub root_fixed : Fixes root.Post
root_fixed = fixed

pub new_fixed : FixesAll new.Post {C = List Float} (λ κs r e. e.1.0.now)
new_fixed κs x r r' e e' p q = p ∙ sym q

pub slab_fixed : FixesAll slab.Post {C = ℕ × List Float} (λ κs r e. (r, e.1.1.0.now))
slab_fixed κs x r r' e e' p q = ap (λ (o : Test). (o.answer, o.numbers)) (p ∙ sym q)

pub triangle_fixed : FixesAll triangle.Post {C = ℕ × List Float} (λ κs r e. (r, e.1.1.0.now))
triangle_fixed κs x r r' e e' p q = ap (λ (o : Test). (o.answer, o.numbers)) (p ∙ sym q)

pub normals_fixed : FixesAll normals.Post {C = ℕ × List Float × List ℕ} (λ κs r e. (r, e.0.now, e.1.0.now))
normals_fixed κs x r r' e e' p q = ap (λ (o : Normals). (o.answer, o.triangles, o.told)) (p ∙ sym q)

-- the index list, boxes, links and what is told
pub build_fixed : FixesAll build.Post {C = ℕ × List ℕ × List Float × List ℕ × List ℕ} (λ κs r e. (r, e.1.0.now, e.1.1.0.now, e.1.1.1.0.now, e.1.1.1.1.0.now))
build_fixed κs x r r' e e' p q = ap (λ (o : Build). (o.answer, o.index, o.boxes, o.links, o.told)) (p ∙ sym q)

-- the hit's numbers and what is told
pub walk_fixed : FixesAll walk.Post {C = ℕ × List Float × List ℕ} (λ κs r e. (r, e.1.1.1.1.1.1.0.now, e.1.1.1.1.1.1.1.0.now))
walk_fixed κs x r r' e e' p q = ap (λ (o : Walk). (o.answer, o.numbers, o.told)) (p ∙ sym q)

-- the times, what is told and the refusal's place
pub sky_fixed : FixesAll sky.Post {C = ℕ × List Float × List ℕ × List ℕ} (λ κs r e. (r, e.1.1.1.1.1.1.0.now, e.1.1.1.1.1.1.1.0.now, e.1.1.1.1.1.1.1.1.0.now))
sky_fixed κs x r r' e e' p q = ap (λ (o : Sky). (o.answer, o.times, o.told, o.at)) (p ∙ sym q)

-- the times, what is told, the report and the refusal's place
pub watts_fixed : FixesAll watts.Post {C = ℕ × List Float × List ℕ × List ℕ × List ℕ} (λ κs r e. (r, e.1.1.1.1.1.1.1.0.now, e.1.1.1.1.1.1.1.1.0.now, e.1.1.1.1.1.1.1.1.1.0.now, e.1.1.1.1.1.1.1.1.1.1.0.now))
watts_fixed κs x r r' e e' p q = ap (λ (o : Watts). (o.answer, o.times, o.told, o.report, o.at)) (p ∙ sym q)

pub share_fixed : FixesAll share.Post {C = ℕ × List ℕ} (λ κs r e. (r, e.1.1.0.now))
share_fixed κs x r r' e e' p q = λ i. ((p.0 ∙ sym q.0) i, (p.1 ∙ sym q.1) i)

-- the work room and what is told
pub accept_fixed : FixesAll accept.Post {C = ℕ × List ℕ × List ℕ} (λ κs r e. (r, e.1.1.1.1.0.now, e.1.1.1.1.1.0.now))
accept_fixed κs x r r' e e' p q = ap (λ (o : Accept). (o.answer, o.work, o.told)) (p ∙ sym q)

-- the triangles, the materials and what is told
pub read_stl_fixed : FixesAll read_stl.Post {C = ℕ × List Float × List ℕ × List ℕ} (λ κs r e. (r, e.1.0.now, e.1.1.0.now, e.1.1.1.0.now))
read_stl_fixed κs x r r' e e' p q = ap (λ (o : StlRead). (o.answer, o.triangles, o.materials, o.told)) (p ∙ sym q)

-- the file and what is told
pub write_stl_fixed : FixesAll write_stl.Post {C = ℕ × List ℕ × List ℕ} (λ κs r e. (r, e.1.0.now, e.1.1.0.now))
write_stl_fixed κs x r r' e e' p q = ap (λ (o : StlWritten). (o.answer, o.file, o.told)) (p ∙ sym q)
