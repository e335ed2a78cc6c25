use Rattle.dir_load.proofs.FormLemmas.{formed-elements, formed-lists, formed-composites, formed-segments}
use Rattle.dir_load.proofs.gather.Gathered.add_octets.Goals as goal

pub returns-in-Elements-clause-formed : goal.returns-in-Elements-clause-formed
returns-in-Elements-clause-formed c most held =
    formed-elements most c.args.self.now held c.append.result c.read_elements.result c.append.new.all c.append.ensures c.read_elements.ensures.forms

pub returns-in-Codes-clause-formed : goal.returns-in-Codes-clause-formed
returns-in-Codes-clause-formed c most held =
    formed-lists most c.args.self.now held c.append-in-Codes.result c.read_codes.result c.append-in-Codes.new.all c.append-in-Codes.ensures c.read_codes.ensures.forms

pub returns-in-Composites-clause-formed : goal.returns-in-Composites-clause-formed
returns-in-Composites-clause-formed c most held =
    formed-composites most c.args.self.now held c.append-in-Composites.result c.read_composites.result c.append-in-Composites.new.all c.append-in-Composites.ensures c.read_composites.ensures.forms

pub returns-in-Segments-clause-formed : goal.returns-in-Segments-clause-formed
returns-in-Segments-clause-formed c most held =
    formed-segments most c.args.self.now held c.append-in-Segments.result c.read_segments-read.result c.append-in-Segments.new.all c.append-in-Segments.ensures c.read_segments-read.ensures.forms
