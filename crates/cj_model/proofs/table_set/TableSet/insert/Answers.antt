use Rattle.std.proofs.Common.{◌≡◌, List, ℕ, sym, subst}
use Rattle.std.specs.declared.result.Result.{Result}
use Rattle.std.specs.declared.result.Result.TheVariants.{Ok, Err}
use Rattle.std.specs.Prelude.{OnOk, OnErr}
use Rattle.std.proofs.lemmas.Cmp.{nat_list_cmp_total}
use Rattle.cj_model.specs.declared.memory.NoMemory.{NoMemory}
use Rattle.cj_model.specs.Database.Tables.{Rises, name_cmp, put_by}
use Rattle.cj_model.proofs.RisingLaws.{rises_put}
use Rattle.cj_model.proofs.table_set.TableSet.insert.Goals as goal

stays : (r : Result (Unit {0}) NoMemory) (old new : List (List ℕ)) (name : List ℕ) → OnOk r (new ≡ put_by name_cmp old name) → OnErr r (new ≡ old) → Rises name_cmp old → Rises name_cmp new
stays (Ok x) old new name ok err rises = subst (Rises name_cmp) (sym ok) (rises_put name_cmp nat_list_cmp_total old name rises)
stays (Err e) old new name ok err rises = subst (Rises name_cmp) (sym err) rises

pub invariant_of-self : goal.invariant_of-self
invariant_of-self c = stays c.put_name.result c.self.inside.names c.put_name.new.names c.args.name.now c.put_name.ensures.ok c.put_name.ensures.err c.self.invariant
