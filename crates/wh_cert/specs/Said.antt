-- What a value of the program stands for: the certificate without pointers.
use Rattle.std.specs.Prelude.{map}
use Rattle.wh_text.specs.Erase.{rty, rtm}
use Rattle.wh_poly.specs.Erase.{poly}
use Rattle.wh_order_inference.specs.Said.{inference, written_filter}
use Rattle.wh_cert.specs.Interps as w_interps
use Rattle.wh_cert.specs.Items as w_items
use Rattle.wh_cert.specs.Written as w
use Rattle.wh_cert.specs.declared.certificate.Certificate.{Certificate}
use Rattle.wh_cert.specs.declared.certificate.Certificate.TheVariants.{Yes, No}
use Rattle.wh_cert.specs.declared.certificate.YesCertificate.{YesCertificate}
use Rattle.wh_cert.specs.declared.certificate.NoCertificate.{NoCertificate}
use Rattle.wh_cert.specs.declared.certificate.Node.{Node}
use Rattle.wh_cert.specs.declared.certificate.Node.TheVariants.{Done, Alone, Blocks, Subterm, Poly, Order}
use Rattle.wh_cert.specs.declared.certificate.Arg.{Arg}
use Rattle.wh_cert.specs.declared.certificate.Put.{Put}
use Rattle.wh_cert.specs.declared.item.Item.{Item}
use Rattle.wh_cert.specs.declared.item.Item.TheVariants as item
use Rattle.wh_cert.specs.declared.order_node.NamedFilter.{NamedFilter}
use Rattle.wh_cert.specs.declared.order_node.OrderNode.{OrderNode}
use Rattle.wh_cert.specs.declared.poly_node.Interp.{Interp}
use Rattle.wh_cert.specs.declared.poly_node.PolyNode.{PolyNode}

abbrev pub said_put : Put → w.Put
said_put p = record { number = p.number; kind = rty p.kind; term = rtm p.term }

abbrev pub said_no : NoCertificate → w.Cert
said_no c = w.no (rtm c.term) c.steps c.at (map said_put c.puts)

abbrev pub said_arg : Arg → w.Arg
said_arg a = record { name = a.name; place = a.place }

abbrev pub said_interp : Interp → w_interps.Interp
said_interp i = record { name = i.name; poly = poly i.poly }

abbrev pub said_poly : PolyNode → w.Node
said_poly x = w.interpretations x.usable (map said_interp x.funs) (map said_interp x.marks) x.rules x.pairs x.drop

abbrev pub said_filter : NamedFilter → w.Filtering
said_filter f = record { name = f.name; filter = written_filter f.filter }

abbrev pub said_order : OrderNode → w.Node
said_order x = w.order (map said_filter x.funs) (map said_filter x.marks) (map inference x.rules) (map inference x.pairs) x.drop

abbrev pub said_node : Node → w.Node
said_node Done = w.done
said_node Alone = w.alone
said_node (Blocks parts) = w.blocks parts
said_node (Subterm args drop) = w.subterm (map said_arg args) drop
said_node (Poly x) = said_poly x.value
said_node (Order x) = said_order x.value

abbrev pub said_yes : YesCertificate → w.Cert
said_yes c = w.yes c.version c.ranks c.pairs (map said_node c.nodes)

abbrev pub said : Certificate → w.Cert
said (Yes c) = said_yes c
said (No c) = said_no c

abbrev pub said_item : Item → w_items.Item
said_item (item.YesHead version ranks pairs) = w_items.yes_head version ranks pairs
said_item (item.Node x) = w_items.node (said_node x.value)
said_item (item.NoHead t) = w_items.no_head (rtm t.value)
said_item (item.Step s) = w_items.step s
said_item (item.At path) = w_items.at path
said_item (item.Put p) = w_items.put (said_put p.value)
said_item item.End = w_items.end
