-- Graphs: Graph. What nodes reach, components and orders: Reach. How a graph is stored, and what the code keeps
-- on the way: steps.
pub mod Graph
pub mod Reach
pub mod steps
